-- `step_flow::jumps::jump_if` meets its contract. Assumes nothing.
use Prim.Native.Nat.{ℕ}
use mathlib.Core.Path.{◌≡◌}
use mathlib.Core.Bool.{true}
use Rattle.std.proofs.Common.{Ok}
use Rattle.machine.specs.Step.{jump, jump_if}
use Rattle.machine.specs.Change as change
use Rattle.flag.specs.Flags.{is_set}
use Rattle.flag.specs.Jumps.{jump_of}
use Rattle.step_core.proofs.Answers.{success, same}
use borrow.Author.Rules.{rules}
use Rattle.step_flow.proofs.Results.{taken}
use Rattle.step_flow.proofs.jumps.jump_if.Goals.{in_default-answer-via-in-Ok+else-not-is_set, in_default-answer-via-in_default-answer}
use Rattle.step_flow.proofs.jumps.jump_if.Goals as goal

pub returns-in-Ok : goal.returns-in-Ok
unfolding jump_if change.moved
returns-in-Ok c s ca me = success c.onward.ensures (λ f. simp (c.in-Some.is, c.in-Ok.is, ← c.is_set.ensures, c.if-not-is_set.true)) (search rules)

pub returns-in_default : goal.returns-in_default
unfolding jump_if jump
returns-in_default c s ca me = same (c.jump.ensures s ca me) (λ f. simp c.in_default.is)

pub returns-in_default-answer : goal.returns-in_default-answer
returns-in_default-answer c s ca me =
    let set : (t : ℕ) → c.in-Some.answer ≡ Ok t → is_set c.args.flags (jump_of c.args.condition) ≡ true =
    elim c.in_default-answer.branch [
      | in_default-answer-via-in-Ok+else-not-is_set w ↦ λ t e. simp (← w.is_set.ensures, w.if-not-is_set.false)
      | in_default-answer-via-in_default-answer w ↦ λ t e. absurd (w.in_default-answer.not-Ok t e)
    ] in
    same (c.jump-in_default-answer.ensures s ca me) (λ f. rw c.in-Some.is (taken _ _ _ set))
