-- `inst_encode::checked_len` meets its contract. Assumes nothing.
use mathlib.Core.Path.{refl, sym, ap, ◌∙◌}
use native.Mathlib.Omega.{arith}
use Rattle.std.specs.Prelude.{Some}
use Rattle.inst_encode.proofs.Laws.{is_form}
use Rattle.inst_encode.proofs.Facts.{size_is, size_below, ill, formed}
use Rattle.inst_encode.proofs.checked_len.Goals as goal

pub returns-in_err-form : goal.returns-in_err-form
returns-in_err-form c = let h = ill c.args.image.now c.args.inst c.in_err-form.ensures in simp (h, c.from_residual.ensures)

pub returns-then-not-fits : goal.returns-then-not-fits
returns-then-not-fits c = simp (formed c.args.image.now c.args.inst _ _ _ c.in_ok-form.ensures c.fits.ensures c.if-not-fits.true)

pub size-requires : goal.size-requires
size-requires c =
    let w = formed c.args.image.now c.args.inst _ _ _ c.in_ok-form.ensures c.fits.ensures c.if-not-fits.false in
    let h = rw (is_form _ _ _ c.in_ok-form.ensures refl) at (size_below c.args.image.now c.args.inst w) in
    let g = c.well_formed.0 in
    omega arith

pub returns : goal.returns
returns c =
    let w = formed c.args.image.now c.args.inst _ _ _ c.in_ok-form.ensures c.fits.ensures c.if-not-fits.false in
    let n = rw (is_form _ _ _ c.in_ok-form.ensures refl) at (size_is c.args.image.now c.args.inst w) in
    rw w (ap Some (c.size.ensures ∙ sym n))
