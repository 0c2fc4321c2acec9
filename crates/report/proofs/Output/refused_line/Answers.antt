-- `report::Output::refused_line` meets its contract. Assumes nothing.
use native.Mathlib.Omega.{arith}
use lib.ListN.{length-append}
use Rattle.report.specs.Text.{refused_line}
use Rattle.report.proofs.Laws.{prints_both, same_length}
use Rattle.report.proofs.Output.refused_line.Goals as goal

pub number-requires : goal.number-requires
unfolding refused_line
number-requires c = let h = simp length-append at c.requires in rw c.from.ensures (omega arith)

pub push-requires : goal.push-requires
unfolding refused_line
push-requires c =
    let h = simp length-append at c.requires in
    let p = rw c.from.ensures at c.number.ensures in
    omega (arith, same_length p.put, p.put.next_is)

pub returns : goal.returns
unfolding refused_line
returns c = prints_both (rw c.from.ensures at c.number.ensures) c.push.ensures
