-- `machine_bytes::read_numbers` meets its contract. Assumes nothing.
use Prim.Native.Nat.{◌-◌}
use mathlib.Core.Path.{◌≡◌}
use lib.ListN.{length}
use Rattle.tables.specs.Tables.{numbers_in}
use Rattle.machine_bytes.proofs.Copies.{Read}
use Rattle.machine_bytes.proofs.read_numbers.Given as goal

abbrev pub invariant-loop-i : goal.invariant-loop-i
invariant-loop-i l = Read (numbers_in l.from) l.to l.i × (length l.to ≡ length l.initial.to)

abbrev pub decreases-loop-i : goal.decreases-loop-i
decreases-loop-i l = length (numbers_in l.from) - l.i
