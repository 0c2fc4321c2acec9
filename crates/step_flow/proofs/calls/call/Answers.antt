-- `step_flow::calls::call` meets its contract. Assumes nothing.
use mathlib.Core.Path.{refl}
use Rattle.machine.specs.Step.{call, call_to, ◌must◌else◌then◌}
use Rattle.machine.specs.Change as change
use borrow.Author.Tests.{lt-ltb, le-ltb}
use borrow.Author.Rules.{rules}
use Rattle.step_flow.proofs.Results.{answered}
use Rattle.step_flow.proofs.calls.call.Goals as goal

pub returns-then-call_height-ge-CALL_LIMIT : goal.returns-then-call_height-ge-CALL_LIMIT
unfolding call call_to ◌must◌else◌then◌ change.moved change.with_calls
returns-then-call_height-ge-CALL_LIMIT c s me = record { does = λ f. simp (le-ltb _ _ c.if-call_height-ge-CALL_LIMIT.true); small = tt; kept = tt }

pub returns-in_default : goal.returns-in_default
unfolding call call_to ◌must◌else◌then◌ change.moved change.with_calls
returns-in_default c s me = record { does = λ f. simp (lt-ltb _ _ c.if-call_height-ge-CALL_LIMIT.false, c.in_default.is); small = tt; kept = (refl, refl, refl) }

pub returns-in-Err-NoLabel : goal.returns-in-Err-NoLabel
unfolding call call_to ◌must◌else◌then◌ change.moved change.with_calls
returns-in-Err-NoLabel c s me = record { does = λ f. simp (lt-ltb _ _ c.if-call_height-ge-CALL_LIMIT.false, c.in-Some.is, answered c.in-Err-NoLabel.is (rw c.in-Err-NoLabel.is at c.in-Err-NoLabel.field-0-is)); small = tt; kept = tt }

pub returns-in-Err-IllChain : goal.returns-in-Err-IllChain
unfolding call call_to ◌must◌else◌then◌ change.moved change.with_calls
returns-in-Err-IllChain c s me = record { does = λ f. simp (lt-ltb _ _ c.if-call_height-ge-CALL_LIMIT.false, c.in-Some.is, answered c.in-Err-IllChain.is (rw c.in-Err-IllChain.is at c.in-Err-IllChain.field-0-is)); small = tt; kept = (refl, refl, refl) }

pub returns-in-Ok : goal.returns-in-Ok
unfolding call call_to ◌must◌else◌then◌ change.moved change.with_calls
returns-in-Ok c s me = rw c.moved.ensures (record { does = λ f. simp (lt-ltb _ _ c.if-call_height-ge-CALL_LIMIT.false, c.in-Some.is, c.in-Ok.is); small = search rules; kept = tt })
