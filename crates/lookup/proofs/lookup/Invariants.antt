-- `lookup::lookup` meets its contract: the walk that is left leads to the lookup's answer, whatever the instructions are. Assumes nothing.
use Rattle.std.proofs.Common.{List}
use Rattle.inst.specs.declared.Inst.{Inst}
use Rattle.lookup.specs.Walks.{lent_program}
use Rattle.lookup.proofs.Chain.{GoesOn}
use Rattle.lookup.proofs.lookup.Given as goal

abbrev pub invariant-loop-next : goal.invariant-loop-next
invariant-loop-next g l = (insts : List Inst) → GoesOn (lent_program l.image insts (g.T.LabelTable.records l.labels) l.count) l.name l.bound l.next

abbrev pub decreases-loop-next : goal.decreases-loop-next
decreases-loop-next g l = l.bound
