-- `report::Output::cell_line` meets its contract. Assumes nothing.
use mathlib.Core.Path.{ap}
use native.Mathlib.Omega.{arith}
use lib.ListN.{length, length-append}
use Rattle.report.specs.Text.{cell_line}
use Rattle.report.proofs.Laws.{prints_both, same_length, hex_is}
use Rattle.report.proofs.Output.cell_line.Goals as goal

pub push-requires : goal.push-requires
unfolding cell_line
push-requires c =
    let h = simp length-append at c.requires in
    let e = ap length (hex_is _ _ _ (omega arith) c.hex-count.ensures.len c.hex-count.ensures.digits) in
    omega arith

pub push-requires-2 : goal.push-requires-2
unfolding cell_line
push-requires-2 c =
    let h = simp length-append at c.requires in
    let e = ap length (hex_is _ _ _ (omega arith) c.hex-count.ensures.len c.hex-count.ensures.digits) in
    omega (arith, same_length c.push.ensures.put, c.push.ensures.put.next_is)

pub returns : goal.returns
unfolding cell_line
returns c = prints_both (rw (hex_is _ _ _ (omega arith) c.hex-count.ensures.len c.hex-count.ensures.digits) at c.push.ensures) c.push-2.ensures
