-- `step_stack::cells::push` meets its contract. Assumes nothing.
use Rattle.machine.specs.Step.{push, ◌must◌else◌then◌}
use Rattle.machine.specs.Change.{moved, with_stack}
use Rattle.step_core.proofs.Answers.{success, trapped}
use borrow.Author.Tests.{lt-ltb, le-ltb}
use borrow.Author.Rules.{rules}
use Rattle.step_stack.proofs.cells.push.Goals as goal

pub returns-then-height-lt-STACK_LIMIT : goal.returns-then-height-lt-STACK_LIMIT
unfolding push ◌must◌else◌then◌ moved with_stack
returns-then-height-lt-STACK_LIMIT c ca me = success c.onward.ensures (λ f. simp (lt-ltb _ _ c.if-height-lt-STACK_LIMIT.true)) (search rules)

pub returns-else-height-lt-STACK_LIMIT : goal.returns-else-height-lt-STACK_LIMIT
unfolding push ◌must◌else◌then◌ moved with_stack
returns-else-height-lt-STACK_LIMIT c ca me = trapped c.trap.ensures (λ f. simp (le-ltb _ _ c.if-height-lt-STACK_LIMIT.false))
