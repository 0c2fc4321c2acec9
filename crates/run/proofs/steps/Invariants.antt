-- `run::steps` meets its contract. Assumes nothing.
use mathlib.Core.Path.{◌≡◌}
use Rattle.step.specs.Steps.{lent}
use Rattle.run.proofs.Loop.{Loops}
use Rattle.run.proofs.steps.Given as goal

abbrev pub invariant-loop-at : goal.invariant-loop-at
invariant-loop-at l =
    Loops l.code.image.now l.code.insts.now l.code.count l.fn.from l.fn.asked l.initial.dumps.filled l.initial.dumps.buffer.now (lent l.initial.known l.initial.arrays)
    l.at l.found l.dumps.filled l.dumps.buffer.now (lent l.known l.arrays)
    × (l.dumps.buffer.ghost_name ≡ l.initial.dumps.buffer.ghost_name)

abbrev pub decreases-loop-at : goal.decreases-loop-at
decreases-loop-at l = l.at.left
