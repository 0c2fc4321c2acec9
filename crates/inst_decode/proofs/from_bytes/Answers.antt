-- `inst_decode::from_bytes` meets its contract. Assumes nothing.
use Prim.Native.Nat.{◌+◌}
use mathlib.Core.Path.{◌∙◌}
use Rattle.std.proofs.lemmas.Result.{err_from_is_err_and}
use Rattle.inst.specs.Forms.{form_at}
use Rattle.inst_decode.proofs.Laws.{eight_behind, by_form, rest}
use Rattle.inst_decode.proofs.from_bytes.Goals as goal

pub returns-in_err-len-in-Name : goal.returns-in_err-len-in-Name
unfolding form_at
returns-in_err-len-in-Name c =
    let i = (rw c.in_ok-ok_or.ensures.ok_part at c.get.ensures.lookup).3 in
    let p = err_from_is_err_and c.from_residual-in_err-len-in-Name.result c.from_residual-in_err-len-in-Name.ensures.1 in
    let f = rw c.in_ok-ok_or-2.ensures.ok_part at c.of.ensures in
    rw (p.1, p.2) (c.in_err-len-in-Name.ensures.value c.args.image.now c.args.at c.from-op.result i.0 (rest c.args.image.now (c.args.at + 1)) ∙ by_form _ _ _ _ _ i.0 (c.from-op.ensures ∙ i.1 0) f c.in-Name.is)

pub returns-in_ok-read_eight-in-Eight : goal.returns-in_ok-read_eight-in-Eight
unfolding form_at
returns-in_ok-read_eight-in-Eight c =
    let i = (rw c.in_ok-ok_or.ensures.ok_part at c.get.ensures.lookup).3 in
    let k = c.in_ok-read_eight-in-Eight.ensures in
    let f = rw c.in_ok-ok_or-2.ensures.ok_part at c.of.ensures in
    rw (c.unnamed-in-Eight.ensures, k.1) (eight_behind _ _ _ _ i.0 (rest c.args.image.now (c.args.at + 1)) k.0 ∙ by_form _ _ _ _ _ i.0 (c.from-op.ensures ∙ i.1 0) f c.in-Eight.is)

pub returns-in_ok-len-in-Name : goal.returns-in_ok-len-in-Name
unfolding form_at
returns-in_ok-len-in-Name c =
    let i = (rw c.in_ok-ok_or.ensures.ok_part at c.get.ensures.lookup).3 in
    let f = rw c.in_ok-ok_or-2.ensures.ok_part at c.of.ensures in
    c.in_ok-len-in-Name.ensures.value c.args.image.now c.args.at c.from-op.result i.0 (rest c.args.image.now (c.args.at + 1)) ∙ by_form _ _ _ _ _ i.0 (c.from-op.ensures ∙ i.1 0) f c.in-Name.is
