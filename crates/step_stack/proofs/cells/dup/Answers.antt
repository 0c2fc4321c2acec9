-- `step_stack::cells::dup` meets its contract. Assumes nothing.
use Rattle.machine.specs.Step.{dup, ◌must◌else◌then◌}
use Rattle.step_core.proofs.Answers.{same, trapped}
use borrow.Author.Tests.{lt-ltb, le-ltb}
use Rattle.step_stack.proofs.cells.dup.Goals as goal

pub returns-then-depth-height : goal.returns-then-depth-height
unfolding dup ◌must◌else◌then◌
returns-then-depth-height c ca me = same (c.push.ensures ca me) (λ f. simp (lt-ltb _ _ c.if-depth-height.true))

pub returns-else-depth-height : goal.returns-else-depth-height
unfolding dup ◌must◌else◌then◌
returns-else-depth-height c ca me = trapped c.trap.ensures (λ f. simp (le-ltb _ _ c.if-depth-height.false))
