-- `loader::load` meets its contract: the pass that links is underway. Assumes nothing.
use Rattle.loader.proofs.Passing.{Underway, left}
use Rattle.loader.proofs.load.Given as goal

abbrev pub invariant-loop-next : goal.invariant-loop-next
invariant-loop-next g l = Underway l.image l.fn.insts g.S.LabelSlot.records g.S.LabelSlot.slots l.initial.labels l.next l.labels

abbrev pub decreases-loop-next : goal.decreases-loop-next
decreases-loop-next g l = left l.checked.accepted.count l.next
