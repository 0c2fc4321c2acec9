-- `encoder::check` meets its contract. Assumes nothing.
use mathlib.Core.Path.{sym, ap, ◌∙◌}
use native.Mathlib.Omega.{arith}
use Rattle.std.specs.Prelude.{Ok, Err}
use Rattle.std.proofs.lemmas.Result.{err_from_is_err_and}
use Rattle.encoder.specs.declared.EncodeError.TheVariants.{NoRoom}
use Rattle.machine.specs.Encode.{in_room}
use Rattle.encoder.specs.Encoder.{means, Fits}
use Rattle.encoder.proofs.Answers.{exit, no_len, some_len, room_fits, room_passed}
use Rattle.encoder.proofs.Records.{inst_at, table_within, checked_none, checked_ill, checked_next, checked_all}
use Rattle.encoder.proofs.check.Goals as goal

pub loop-i-init : goal.loop-i-init
loop-i-init c = checked_none _ _ _ _ (table_within _ _ c.args.code.inside)

pub returns-in_err-len : goal.returns-in_err-len
unfolding means in_room
returns-in_err-len c =
    let none = c.in_err-len.ensures.ok_part in
    let ill = no_len _ _ (sym none ∙ c.checked_len.ensures) in
    ap means (exit (err_from_is_err_and _ c.from_residual.ensures.1) none c.in_err-len.ensures.value)
    ∙ rw (checked_ill _ _ _ _ _ _ c.loop-i.invariant _ c.loop-i-test.true (inst_at _ _ _ _ c.args.code.inside c.loop-i-test.true c.inst.ensures) ill)

pub loop-i-preserved : goal.loop-i-preserved
loop-i-preserved c =
    let w = some_len _ _ _ (sym c.in_ok-len.ensures.ok_part ∙ c.checked_len.ensures) in
    checked_next _ _ _ _ _ _ c.loop-i.invariant _ _ _ c.loop-i-test.true (inst_at _ _ _ _ c.args.code.inside c.loop-i-test.true c.inst.ensures) w.0 w.1 c.taken-left.ensures

pub returns-in_err-rest : goal.returns-in_err-rest
unfolding means
returns-in_err-rest c =
    let none = c.in_err-rest.ensures.ok_part in
    ap means (exit (err_from_is_err_and _ c.from_residual-in_err-rest.ensures.1) none c.in_err-rest.ensures.value)
    ∙ checked_all _ _ _ _ _ _ c.loop-i.invariant (Err NoRoom) c.loop-i-test.false (λ n f. room_passed _ n (rw none at f))

pub overflow_sub-result : goal.overflow_sub-result
unfolding Fits
overflow_sub-result c =
    let f = rw c.in_ok-rest.ensures.ok_part at c.loop-i.invariant.fits in
    omega arith

pub returns : goal.returns
unfolding means
returns c = checked_all _ _ _ _ _ _ c.loop-i.invariant (Ok _) c.loop-i-test.false (λ n f. room_fits _ n _ (rw c.in_ok-rest.ensures.ok_part at f))
