-- `run::steps` meets its contract. Assumes nothing.
use mathlib.Core.Path.{refl, ◌∙◌}
use native.Mathlib.Omega.{arith}
use Rattle.run.proofs.Loop.{loop_starts, loop_over, loop_on, loop_asks, loop_stops}
use Rattle.run.proofs.steps.Goals as goal

pub loop-at-init : goal.loop-at-init
loop-at-init c = (loop_starts _ _ _ _ _ c.requires.small c.args.dumps.now.inside c.requires.listed, refl)

pub step-requires : goal.step-requires
step-requires c = c.loop-at.invariant.0.small

pub returns-in-Err : goal.returns-in-Err
returns-in-Err c = record { same_buffer = c.loop-at.invariant.1; advances = loop_asks c.loop-at.invariant.0 c.in-Err.ensures }

pub follow-requires : goal.follow-requires
follow-requires c = (c.loop-at-test.true, c.in-Ok.ensures.small)

pub returns-in_err-next : goal.returns-in_err-next
returns-in_err-next c = record { same_buffer = c.in_err-next.ensures.same_buffer ∙ c.loop-at.invariant.1; advances = rw c.from_residual.ensures (loop_stops c.loop-at.invariant.0 c.loop-at-test.true c.in-Ok.ensures c.in_err-next.ensures.follows) }

pub loop-at-preserved : goal.loop-at-preserved
loop-at-preserved c = (loop_on c.loop-at.invariant.0 c.loop-at-test.true c.in-Ok.ensures c.in_ok-next.ensures.follows c.run_known-at.ensures, c.in_ok-next.ensures.same_buffer ∙ c.loop-at.invariant.1)

pub returns : goal.returns
returns c = record { same_buffer = c.loop-at.invariant.1; advances = rw c.ends.ensures (loop_over c.loop-at.invariant.0 (omega (arith, c.loop-at-test.false))) }

pub run_known-at-requires : goal.run_known-at-requires
run_known-at-requires c = (c.in_ok-next.ensures.follows.followed.1, c.in-Ok.ensures.listed _ (omega arith) c.loop-at.invariant.0.listed)
