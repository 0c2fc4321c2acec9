-- `quick::run_known` meets its contract. Assumes nothing.
use mathlib.Core.Path.{refl, sym, ◌∙◌}
use native.Mathlib.Omega.{arith}
use Rattle.quick.proofs.Steps.{begun, success_on, stopped_at, key_is, target_is}
use Rattle.quick.proofs.run_known.Goals as goal

pub loop-reached-init : goal.loop-reached-init
loop-reached-init c = begun _ _ _ _ _ _ _ _ c.requires.0

pub execute_known-answer-requires : goal.execute_known-answer-requires
execute_known-answer-requires c =
    let key = c.from-key.ensures ∙ c.key.ensures ∙ key_is c.in-Some.ensures in
    λ u. c.requires.1 _ (omega (arith, c.in-Some.entry.inside, c.in-Some.ensures.1)) (λ e. u (key ∙ e))

pub loop-reached-preserved : goal.loop-reached-preserved
loop-reached-preserved c =
    let key = c.from-key.ensures ∙ c.key.ensures ∙ key_is c.in-Some.ensures in
    success_on _ _ _ _ _ _ _ _ _ _ c.loop-reached.invariant c.loop-reached-test.true (omega (arith, c.in-Some.entry.inside, c.in-Some.ensures.1)) _ _ _ _ _ (λ found start len finds. rw (sym c.success.ensures ∙ c.in-Some-success.is, key) at (c.execute_known-answer.ensures found start len (rw (key, target_is c.in-Some.ensures) finds)))

pub returns-in_default-success : goal.returns-in_default-success
returns-in_default-success c = stopped_at _ _ _ _ _ _ _ _ _ _ c.loop-reached.invariant _ _ _ (rw (sym c.success.ensures ∙ c.in_default-success.is) at (c.execute_known-answer.ensures _ 0 0 (λ _. refl))).holds
