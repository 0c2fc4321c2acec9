-- `report::Output::end_line` meets its contract: h is the room for the line, p what is printed of it. Assumes nothing.
use native.Mathlib.Omega.{arith}
use lib.ListN.{length-append}
use Rattle.report.specs.Text.{end_line}
use Rattle.report.proofs.Laws.{prints_both, same_length}
use Rattle.report.proofs.Output.end_line.Goals as goal

pub number-requires : goal.number-requires
unfolding end_line
number-requires c =
    let h = simp length-append at c.requires in
    let p = prints_both c.push.ensures c.ending.ensures in
    simp length-append (omega (arith, same_length p.put, simp length-append at p.put.next_is))

pub number-requires-2 : goal.number-requires-2
unfolding end_line
number-requires-2 c =
    let h = simp length-append at c.requires in
    let p = prints_both (prints_both c.push.ensures c.ending.ensures) c.number.ensures in
    simp length-append (omega (arith, same_length p.put, simp length-append at p.put.next_is))

pub number-requires-3 : goal.number-requires-3
unfolding end_line
number-requires-3 c =
    let h = simp length-append at c.requires in
    let p = prints_both (prints_both (prints_both c.push.ensures c.ending.ensures) c.number.ensures) c.number-2.ensures in
    simp length-append (omega (arith, same_length p.put, simp length-append at p.put.next_is))

pub number-requires-4 : goal.number-requires-4
unfolding end_line
number-requires-4 c =
    let h = simp length-append at c.requires in
    let p = prints_both (prints_both (prints_both (prints_both c.push.ensures c.ending.ensures) c.number.ensures) c.number-2.ensures) c.number-3.ensures in
    simp length-append (omega (arith, same_length p.put, simp length-append at p.put.next_is))

pub push-requires-2 : goal.push-requires-2
unfolding end_line
push-requires-2 c =
    let h = simp length-append at c.requires in
    let p = prints_both (prints_both (prints_both (prints_both (prints_both c.push.ensures c.ending.ensures) c.number.ensures) c.number-2.ensures) c.number-3.ensures) c.number-4.ensures in
    omega (arith, same_length p.put, simp length-append at p.put.next_is)

pub returns : goal.returns
unfolding end_line
returns c =
    prints_both (prints_both (prints_both (prints_both (prints_both (prints_both c.push.ensures c.ending.ensures) c.number.ensures) c.number-2.ensures) c.number-3.ensures) c.number-4.ensures) c.push-2.ensures
