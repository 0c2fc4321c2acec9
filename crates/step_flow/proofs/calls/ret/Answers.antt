-- `step_flow::calls::ret` meets its contract. Assumes nothing.
use mathlib.Core.Path.{refl}
use Rattle.machine.specs.Step.{ret, ◌must◌else◌then◌}
use Rattle.machine.specs.Change as change
use Rattle.step_core.proofs.Answers.{success, trapped}
use native.Mathlib.Omega.{arith}
use borrow.Author.Tests.{lt-ltb}
use borrow.Author.Rules.{rules}
use Rattle.step_flow.proofs.calls.ret.Goals as goal

pub returns-then-call_height-eq0 : goal.returns-then-call_height-eq0
unfolding ret ◌must◌else◌then◌ change.moved change.with_calls
returns-then-call_height-eq0 c s me = trapped refl (λ f. simp c.if-call_height-eq0.true)

pub returns : goal.returns
unfolding ret ◌must◌else◌then◌ change.moved change.with_calls
returns c s me = success refl (λ f. simp (lt-ltb 0 c.args.at.regs.call_height (omega (arith, c.if-call_height-eq0.false)))) (search rules)
