-- `machine_bytes::read_arrays` meets its contract. Assumes nothing.
use mathlib.Core.Path.{ap, ◌∙◌}
use native.Mathlib.Omega.{arith}
use Rattle.inst.proofs.Laws.{slice_of}
use Rattle.tables.specs.Tables.{numbers_in}
use Rattle.machine_bytes.specs.Layout.{machine_of, calls_at, memory_at, height_at}
use Rattle.machine_bytes.proofs.Fields.{part_long}
use Rattle.machine_bytes.proofs.read_arrays.Goals as goal

pub copy_from_slice-requires : goal.copy_from_slice-requires
copy_from_slice-requires c = omega (arith, part_long c.args.machine.now c.told-machine)

pub returns : goal.returns
unfolding machine_of
returns c = (
  c.read_numbers.ensures ∙ ap numbers_in (slice_of 0 calls_at c.args.machine.now),
  c.read_numbers-2.ensures ∙ ap numbers_in (slice_of calls_at memory_at c.args.machine.now),
  c.copy_from_slice.ensures.after ∙ slice_of memory_at height_at c.args.machine.now,
)
