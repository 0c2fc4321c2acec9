-- What a well-formed record implies. Assumes nothing.
use Prim.Native.Nat.{ℕ, ◌+◌, ◌≤◌}
use mathlib.Core.Path.{◌≡◌, refl}
use mathlib.Core.Bool.{Bool, true, false}
use mathlib.Core.List.{List}
use lib.Dec.{eqb, leb}
use lib.ListN.{length}
use borrow.Author.Tests.{leb-true, leb-false}
use Rattle.inst.specs.declared.Inst.{Inst}
use Rattle.inst.specs.Forms.{one, name, form_of}
use Rattle.inst.specs.Records.{name_in, fits, well_formed}
use Rattle.inst.proofs.Laws.{never, and_left, and_right, no_form}

module _ (image : List ℕ) (i : Inst) (w : well_formed image i ≡ true) where
  by_typ : (b : Bool) → leb i.typ 255 ≡ b → i.typ ≤ 255
  unfolding well_formed fits
  by_typ true e = leb-true _ _ e
  by_typ false e = never (rw (no_form i.typ (leb-false _ _ e)) at w)

  pub typ_byte : i.typ ≤ 255
  typ_byte = by_typ (leb i.typ 255) refl

  pub stream_byte : form_of i.typ ≡ one → i.val ≤ 255
  unfolding well_formed fits
  stream_byte e = leb-true _ _ (and_left _ _ (and_left _ _ (rw e at w)))

  pub name_inside : form_of i.typ ≡ name → i.start + i.len ≤ length image
  unfolding well_formed fits name_in
  name_inside e = leb-true _ _ (and_left _ _ (and_right (eqb i.val 0) _ (rw e at w)))
