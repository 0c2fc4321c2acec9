-- `step_stack::cells::pop` meets its contract. Assumes nothing.
use Rattle.machine.specs.Step.{pop, ◌must◌else◌then◌}
use Rattle.machine.specs.Change.{moved, with_stack}
use Rattle.step_core.proofs.Answers.{success, trapped}
use borrow.Author.Tests.{lt-ltb, le-ltb}
use borrow.Author.Rules.{rules}
use Rattle.step_stack.proofs.cells.pop.Goals as goal

pub returns-then-height-gt0 : goal.returns-then-height-gt0
unfolding pop ◌must◌else◌then◌ moved with_stack
returns-then-height-gt0 c s ca me = success c.onward.ensures (λ f. simp (lt-ltb _ _ c.if-height-gt0.true)) (search rules)

pub returns-else-height-gt0 : goal.returns-else-height-gt0
unfolding pop ◌must◌else◌then◌ moved with_stack
returns-else-height-gt0 c s ca me = trapped c.trap.ensures (λ f. simp (le-ltb _ _ c.if-height-gt0.false))
