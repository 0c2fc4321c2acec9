-- `step_stack::cells::bot` meets its contract. Assumes nothing.
use Rattle.machine.specs.Step.{bot, ◌must◌else◌then◌}
use Rattle.step_core.proofs.Answers.{same, trapped}
use borrow.Author.Tests.{lt-ltb, le-ltb}
use Rattle.step_stack.proofs.cells.bot.Goals as goal

pub returns-then-height-gt0 : goal.returns-then-height-gt0
unfolding bot ◌must◌else◌then◌
returns-then-height-gt0 c ca me = same (c.push.ensures ca me) (λ f. simp (lt-ltb _ _ c.if-height-gt0.true))

pub returns-else-height-gt0 : goal.returns-else-height-gt0
unfolding bot ◌must◌else◌then◌
returns-else-height-gt0 c ca me = trapped c.trap.ensures (λ f. simp (le-ltb _ _ c.if-height-gt0.false))
