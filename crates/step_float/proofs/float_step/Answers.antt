-- `step_float::float_step` meets its contract. Assumes nothing.
use Rattle.machine.specs.Step.{float_step, ◌must◌else◌then◌}
use Rattle.machine.specs.Change.{moved, with_stack}
use Rattle.step_core.proofs.Answers.{success, trapped}
use borrow.Author.Tests.{le-leb, lt-leb}
use borrow.Author.Rules.{rules}
use Rattle.step_float.proofs.float_step.Goals as goal

pub returns-then-height-ge2 : goal.returns-then-height-ge2
unfolding float_step ◌must◌else◌then◌ moved with_stack
returns-then-height-ge2 c ca me = success c.onward.ensures (λ f. simp (le-leb _ _ c.if-height-ge2.true, c.of_floats.ensures, c.of-kind.ensures)) (search rules)

pub returns-else-height-ge2 : goal.returns-else-height-ge2
unfolding float_step ◌must◌else◌then◌ moved with_stack
returns-else-height-ge2 c ca me = trapped c.trap.ensures (λ f. simp (lt-leb _ _ c.if-height-ge2.false))
