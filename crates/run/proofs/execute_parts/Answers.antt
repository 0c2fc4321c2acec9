-- `run::execute_parts` meets its contract. Assumes nothing.
use mathlib.Core.Path.{refl, ◌∙◌}
use borrow.Author.Rules.{rules}
use Rattle.tables.specs.Tables.{insts_of}
use Rattle.run.proofs.Edges.{at_once, begins, reported}
use Rattle.run.proofs.Running.{ready}
use Rattle.run.proofs.Loop.{looked_up}
use Rattle.run.proofs.execute_parts.Goals as goal

pub returns-in-Err : goal.returns-in-Err
returns-in-Err g c = rw (c.ends.ensures, c.new-cells.ensures.empty.0) (reported (at_once _ _ _ _ _ _ _ _ _ _ c.in-Err.ensures.0 (c.in-Err.ensures.1 (g.T.LabelTable.records c.args.labels) _ _ _ _)) (search rules))

pub loop-asking-init : goal.loop-asking-init
loop-asking-init g c = rw (c.new-cells.ensures.empty.0, c.new-cells.ensures.empty.1) (begins _ _ (g.T.LabelTable.records c.args.labels) _ _ _ _ c.in-Ok.code c.in-Ok.ensures c.in-Ok.code.inside, tt, refl)

pub steps-requires : goal.steps-requires
steps-requires g c = ready c.loop-asking.invariant.0

pub loop-asking-smaller : goal.loop-asking-smaller
loop-asking-smaller g c = (looked_up c.in-Continue.ensures.advances (g.T.LabelTable.records c.args.labels) _ c.loop-asking.invariant.0 c.loop-asking.invariant.1 (c.lookup.ensures (insts_of c.in-Ok.code.insts.now))).1

pub loop-asking-preserved : goal.loop-asking-preserved
loop-asking-preserved g c =
    let on = (looked_up c.in-Continue.ensures.advances (g.T.LabelTable.records c.args.labels) _ c.loop-asking.invariant.0 c.loop-asking.invariant.1 (c.lookup.ensures (insts_of c.in-Ok.code.insts.now))).0 in
    (on.0, on.1, c.in-Continue.ensures.same_buffer ∙ c.loop-asking.invariant.2)

pub returns-in-Break : goal.returns-in-Break
returns-in-Break g c = reported (c.in-Break.ensures.advances.stands (g.T.LabelTable.records c.args.labels) _ _ _ c.loop-asking.invariant.0 c.loop-asking.invariant.1) (search rules)
