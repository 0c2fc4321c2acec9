-- `quick::jump_if_known` meets its contract. Assumes nothing.
use Rattle.machine.specs.Step.{jump_if}
use Rattle.machine.specs.Change.{moved}
use Rattle.step_core.proofs.Answers.{success}
use Rattle.quick.proofs.jump_if_known.Goals as goal

pub returns-then-is_set : goal.returns-then-is_set
unfolding jump_if moved
returns-then-is_set c s ca me = success c.moved.ensures (λ f. simp (← c.is_set.ensures, c.if-is_set.true, c.target.ensures)) c.args.at.heights

pub returns-else-is_set : goal.returns-else-is_set
unfolding jump_if moved
returns-else-is_set c s ca me = success c.onward.ensures (λ f. simp (← c.is_set.ensures, c.if-is_set.false)) c.args.at.heights
