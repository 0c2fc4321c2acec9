-- `encoder::encoded_size` meets its contract. Assumes nothing.
use Rattle.std.proofs.lemmas.Result.{err_from_is_err_and}
use Rattle.machine.specs.Encode.{in_room, encoded_size}
use Rattle.encoder.specs.Encoder.{means}
use Rattle.encoder.proofs.Records.{table_past}
use Rattle.encoder.proofs.encoded_size.Goals as goal

pub returns-in_err-code : goal.returns-in_err-code
unfolding means in_room encoded_size
returns-in_err-code c =
    let p = err_from_is_err_and c.from_residual.result c.from_residual.ensures.1 in
    rw (p.1, p.2, c.in_err-code.ensures.0, table_past c.args.image.now _ _ c.in_err-code.ensures.1)

pub returns : goal.returns
unfolding encoded_size
returns c =
    let k = c.in_ok-code.ensures in
    rw (← k.0, ← k.1, ← k.2) c.check.ensures
