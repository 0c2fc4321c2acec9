-- `step_stack::cells::adjust` meets its contract. Assumes nothing.
use Rattle.machine.specs.Step.{adjust, ◌must◌else◌then◌}
use Rattle.machine.specs.Change.{moved, with_stack}
use Rattle.step_core.proofs.Answers.{success, trapped}
use borrow.Author.Tests.{lt-ltb, le-ltb}
use borrow.Author.Rules.{rules}
use Rattle.step_stack.proofs.cells.adjust.Goals as goal

pub returns-then-height-gt0 : goal.returns-then-height-gt0
unfolding adjust ◌must◌else◌then◌ moved with_stack
returns-then-height-gt0 g c h is ca me = success c.onward.ensures (λ f. simp (lt-ltb _ _ c.if-height-gt0.true, is _ _ (c.fits-stack _) c.f.ensures)) (search rules)

pub returns : goal.returns
unfolding adjust ◌must◌else◌then◌ moved with_stack
returns g c h is ca me = trapped c.trap.ensures (λ f. simp (le-ltb _ _ c.if-height-gt0.false))
