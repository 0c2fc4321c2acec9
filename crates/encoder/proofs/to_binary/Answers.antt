-- `encoder::to_binary` meets its contract. Assumes nothing.
use mathlib.Core.Path.{refl, ◌∙◌}
use Rattle.std.proofs.lemmas.Result.{err_from_is_err_and}
use Rattle.machine.specs.Encode.{in_room, encode, output_after}
use Rattle.encoder.specs.Encoder.{means}
use Rattle.encoder.proofs.Answers.{accepted}
use Rattle.encoder.proofs.Records.{table_past}
use Rattle.encoder.proofs.to_binary.Goals as goal

pub returns-in_err-code : goal.returns-in_err-code
unfolding means in_room encode output_after
returns-in_err-code c =
    let p = err_from_is_err_and c.from_residual.result c.from_residual.ensures.1 in
    let past = table_past c.args.image.now _ _ c.in_err-code.ensures.1 in
    record { result_value = rw (p.1, p.2, c.in_err-code.ensures.0, past); out_after = rw past }

pub returns-in_err-size : goal.returns-in_err-size
unfolding means encode output_after
returns-in_err-size c =
    let k = c.in_ok-code.ensures in
    let h = rw (k.0, k.1, k.2) at c.in_err-size.ensures in
    let p = err_from_is_err_and c.from_residual-in_err-size.result c.from_residual-in_err-size.ensures.1 in
    record { result_value = rw (p.1, p.2) h; out_after = rw (← h) refl }

pub write-requires : goal.write-requires
unfolding means
write-requires c = let a = accepted _ _ _ _ _ c.in_ok-size.ensures in record { insts_value = a.well; room = a.fits }

pub returns : goal.returns
unfolding means encode output_after
returns c =
    let k = c.in_ok-code.ensures in
    let h = rw (k.0, k.1, k.2) at c.in_ok-size.ensures in
    record { result_value = h; out_after = (rw (k.0, k.1, k.2) at c.write.ensures) ∙ rw (← h) }
