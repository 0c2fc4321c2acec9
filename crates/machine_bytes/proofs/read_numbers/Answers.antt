-- `machine_bytes::read_numbers` meets its contract. Assumes nothing.
use mathlib.Core.Path.{refl, ◌∙◌}
use native.Mathlib.Omega.{arith}
use lib.ListN.{length-set}
use Rattle.tables.proofs.Bytes.{length_numbers_in}
use Rattle.machine_bytes.proofs.Copies.{read_more, read_all}
use Rattle.machine_bytes.proofs.read_numbers.Goals as goal

pub loop-i-init : goal.loop-i-init
loop-i-init c = (record { long = omega (arith, length_numbers_in c.args.from.now, c.requires); inside = omega arith; same = refl }, refl)

pub number_at-requires : goal.number_at-requires
number_at-requires c = omega (arith, length_numbers_in c.args.from.now, c.loop-i.invariant.0.long, c.loop-i-test.true)

pub loop-i-smaller : goal.loop-i-smaller
loop-i-smaller c = omega (arith, c.loop-i.invariant.0.long, c.loop-i-test.true)

pub loop-i-preserved : goal.loop-i-preserved
loop-i-preserved c = (rw c.number_at.ensures (read_more _ _ _ c.loop-i.invariant.0 (omega (arith, c.loop-i-test.true, c.loop-i.invariant.1))), length-set c.loop-i.to c.loop-i.i c.number_at.result ∙ c.loop-i.invariant.1)

pub returns : goal.returns
returns c = read_all _ _ _ c.loop-i.invariant.0 (omega (arith, c.loop-i-test.false, c.loop-i.invariant.1))
