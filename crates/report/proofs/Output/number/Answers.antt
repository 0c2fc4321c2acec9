-- `report::Output::number` meets its contract. Assumes nothing.
use mathlib.Core.Path.{ap}
use native.Mathlib.Omega.{arith}
use lib.ListN.{length}
use Rattle.report.specs.Text.{decimal}
use Rattle.report.proofs.Laws.{prints_both, room_left, decimal_is}
use Rattle.report.proofs.Output.number.Goals as goal

pub push-requires-2 : goal.push-requires-2
push-requires-2 c =
    let e = ap length (decimal_is _ _ _ (omega arith) c.decimal-count.ensures.len c.decimal-count.ensures.digits) in
    omega (arith, room_left (decimal c.args.number) c.push.ensures.put c.requires)

pub returns : goal.returns
returns c = prints_both c.push.ensures (rw (decimal_is _ _ _ (omega arith) c.decimal-count.ensures.len c.decimal-count.ensures.digits) at c.push-2.ensures)
