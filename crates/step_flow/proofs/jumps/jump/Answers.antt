-- `step_flow::jumps::jump` meets its contract. Assumes nothing.
use mathlib.Core.Path.{refl}
use Rattle.machine.specs.Step.{jump}
use Rattle.machine.specs.Change as change
use Rattle.step_core.proofs.Answers.{success, trapped, refused}
use borrow.Author.Rules.{rules}
use Rattle.step_flow.proofs.Results.{answered}
use Rattle.step_flow.proofs.jumps.jump.Goals as goal

pub returns-in_default : goal.returns-in_default
unfolding jump change.moved
returns-in_default c s ca me = refused refl (λ f. simp c.in_default.is)

pub returns-in-Err-NoLabel : goal.returns-in-Err-NoLabel
unfolding jump change.moved
returns-in-Err-NoLabel c s ca me = trapped refl (λ f. simp (c.in-Some.is, answered c.in-Err-NoLabel.is (rw c.in-Err-NoLabel.is at c.in-Err-NoLabel.field-0-is)))

pub returns-in-Err-IllChain : goal.returns-in-Err-IllChain
unfolding jump change.moved
returns-in-Err-IllChain c s ca me = refused refl (λ f. simp (c.in-Some.is, answered c.in-Err-IllChain.is (rw c.in-Err-IllChain.is at c.in-Err-IllChain.field-0-is)))

pub returns-in-Ok : goal.returns-in-Ok
unfolding jump change.moved
returns-in-Ok c s ca me = success c.moved.ensures (λ f. simp (c.in-Some.is, c.in-Ok.is)) (search rules)
