-- `inst_decode::read_name` meets its contract. Assumes nothing.
use mathlib.Core.Path.{◌≡◌, sym}
use native.Mathlib.Omega.{arith}
use lib.ListN.{length}
use Rattle.std.proofs.lemmas.Result.{err_from_is_err_and}
use Rattle.inst_decode.specs.declared.DecodeError.TheVariants.{PastEnd}
use Rattle.inst_decode.specs.Decode.{magnitude}
use Rattle.inst_decode.proofs.Laws.{short, negative, past, found}
use Rattle.inst_decode.proofs.read_name.Goals as goal

pub returns-in_err-field-clause-value : goal.returns-in_err-field-clause-value
returns-in_err-field-clause-value c image at op h q =
    let k = c.in_err-field.ensures in
    let p = err_from_is_err_and c.from_residual.result c.from_residual.ensures.1 in
    rw (p.1, p.2, k.0) (short image _ at op h q k.1)

pub returns-then-is_negative-clause-value : goal.returns-then-is_negative-clause-value
returns-then-is_negative-clause-value c image at op h q = let k = c.in_ok-field.ensures in negative image _ at op h q _ k.0 k.1 (sym c.if-is_negative.ensures)

pub returns-in_err-name-clause-value : goal.returns-in_err-name-clause-value
returns-in_err-name-clause-value c image at op h q =
    let k = c.in_ok-field.ensures in
    let n = rw c.in_err-name.ensures.ok_part at c.get.ensures.lookup in
    let p = err_from_is_err_and c.from_residual-in_err-name.result c.from_residual-in_err-name.ensures.1 in
    let v = rw c.in_err-name.ensures.ok_part at c.in_err-name.ensures.value in
    let e : c.in_err-name.field-0.0 ≡ PastEnd = cc in
    rw (p.1, p.2, e) (past image _ at op h q _ k.0 k.1 (sym c.if-is_negative.ensures) _ k.2 (omega (arith, n.0)))

pub returns-then-not-name_ok-clause-value : goal.returns-then-not-name_ok-clause-value
returns-then-not-name_ok-clause-value c image at op h q =
    let k = c.in_ok-field.ensures in
    let n = (rw c.in_ok-name.ensures.ok_part at c.get.ensures.lookup).0 in
    found image _ at op h q _ k.0 k.1 (sym c.if-is_negative.ensures) _ k.2 _ _ n.1 n.2 (sym c.if-not-name_ok.ensures)

pub returns-clause-value : goal.returns-clause-value
returns-clause-value c image at op h q =
    let k = c.in_ok-field.ensures in
    let n = (rw c.in_ok-name.ensures.ok_part at c.get.ensures.lookup).0 in
    let len : length c.in_ok-name.name.now ≡ magnitude c.in_ok-field.field = omega (arith, n.3) in
    rw len (found image _ at op h q _ k.0 k.1 (sym c.if-is_negative.ensures) _ k.2 _ _ n.1 n.2 (sym c.if-not-name_ok.ensures))
