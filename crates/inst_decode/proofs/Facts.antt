-- What the definition of from_bytes implies, for the crates above. Assumes nothing.
use Prim.Native.Nat.{ℕ, ◌+◌, ◌<◌, ◌≤◌}
use mathlib.Core.Path.{◌≡◌, refl, ◌∙◌, ap, sym, subst}
use mathlib.Core.Bool.{true, false}
use mathlib.Core.List.{List}
use native.Mathlib.Omega.{arith}
use lib.Dec.{eqb, ltb, leb, lit≤}
use lib.ListN.{length, get_or}
use borrow.Author.Tests.{ne_eqb, ltb-false, leb-false, le-leb}
use Rattle.word.specs.Words.{word}
use Rattle.inst.specs.declared.Inst.{Inst}
use Rattle.inst.specs.Forms.{Form, none, eight, one, name, undefined, has_none, has_eight, has_one, has_name, form_of}
use Rattle.inst.specs.Records.{Bytes, name_ok, part, name_in, fits, well_formed}
use Rattle.inst.proofs.Laws.{by_test}
use Rattle.inst_decode.specs.Decode.{Answer, refused, reads, type_of, magnitude, is_negative, read_name, read_operand, from_bytes}

-- what was read moves on, lies in the image with its name and is well formed, and 27 was read as 46
pub record ReadIn (image : List ℕ) (at : ℕ) (i : Inst) (size : ℕ) : Type 0 where
  pub moves : 1 ≤ size
  pub inside : at + size ≤ length image
  pub name_inside : i.start + i.len ≤ length image
  pub formed : Bytes image → well_formed image i ≡ true
  pub not_idmp : eqb i.typ 27 ≡ false

-- what comes with each answer of from_bytes: a refusal is 2, 3 or 4
abbrev pub Told : List ℕ → ℕ → Answer → Type 0
Told image at (refused n) = (2 ≤ n) × (n ≤ 4)
Told image at (reads i size) = ReadIn image at i size

-- 46 has the form of 27, and no other form has 27
fdmp_form : form_of 46 ≡ one
unfolding form_of has_none has_eight has_one has_name
fdmp_form = refl

pub read_as : (op : ℕ) → form_of op ≡ one → (form_of (type_of op) ≡ one) × (eqb (type_of op) 27 ≡ false)
unfolding type_of
read_as op e = by_test (λ t. (form_of t ≡ one) × (eqb t 27 ≡ false)) (eqb op 27) 46 op (λ _. (fdmp_form, refl)) (λ k. (e, k))

pub not_one : (op : ℕ) (f : Form) → form_of op ≡ f → (f ≡ one → ⊥) → eqb op 27 ≡ false
unfolding form_of has_none has_eight has_one has_name
not_one op f e p = ne_eqb op 27 (λ h. p (sym e ∙ ap form_of h))

module _ (image : List ℕ) (at op : ℕ) where
  named_told : (field : ℕ) → form_of op ≡ name → at + 9 ≤ length image → Told image at (read_name image at op field)
  unfolding read_name well_formed fits name_in
  named_told field e h =
      let len = magnitude field in
      by_test (Told image at) (is_negative field) _ _ (λ _. (lit≤ tt, lit≤ tt))
      (λ _. by_test (Told image at) (ltb (length image) (at + 9 + len)) _ _ (λ _. (lit≤ tt, lit≤ tt))
      (λ k. let l = ltb-false (length image) (at + 9 + len) k in
      by_test (Told image at) (name_ok (part image (at + 9) len)) _ _
      (λ g. record { moves = omega arith; inside = omega arith; name_inside = omega arith; formed = λ _. simp (e, le-leb _ _ l, g); not_idmp = not_one op name e (λ z. cc) })
      (λ _. (lit≤ tt, lit≤ tt))))

  operand_told : (f : Form) → form_of op ≡ f → at < length image → Told image at (read_operand image at op f)
  unfolding read_operand well_formed fits
  operand_told none e h =
      record { moves = lit≤ tt; inside = omega arith; name_inside = omega arith; formed = λ _. simp e; not_idmp = not_one op none e (λ z. cc) }
  operand_told eight e h =
      by_test (Told image at) (ltb (length image) (at + 9)) _ _ (λ _. (lit≤ tt, lit≤ tt))
      (λ k. record { moves = lit≤ tt; inside = ltb-false _ _ k; name_inside = omega arith; formed = λ _. simp e; not_idmp = not_one op eight e (λ z. cc) })
  operand_told one e h =
      by_test (Told image at) (ltb (length image) (at + 2)) _ _ (λ _. (lit≤ tt, lit≤ tt))
      (λ k. record { moves = lit≤ tt; inside = ltb-false _ _ k; name_inside = omega arith; formed = λ b. let l : get_or image (at + 1) 0 ≤ 255 = omega (arith, b (at + 1)) in simp ((read_as op e).0, le-leb _ _ l); not_idmp = (read_as op e).1 })
  operand_told name e h =
      by_test (Told image at) (ltb (length image) (at + 9)) _ _ (λ _. (lit≤ tt, lit≤ tt))
      (λ k. named_told (word image (at + 1)) e (ltb-false _ _ k))
  operand_told undefined e h = (lit≤ tt, lit≤ tt)

pub told : (image : List ℕ) (at : ℕ) → Told image at (from_bytes image at)
unfolding from_bytes
told image at =
    let op = get_or image at 0 in
    by_test (Told image at) (leb (length image) at) _ _ (λ _. (lit≤ tt, lit≤ tt))
    (λ k. operand_told image at op (form_of op) refl (leb-false _ _ k))

pub read_in_lem : (image : List ℕ) (at : ℕ) (i : Inst) (size : ℕ) → from_bytes image at ≡ reads i size → ReadIn image at i size
read_in_lem image at i size e = subst (Told image at) e (told image at)
