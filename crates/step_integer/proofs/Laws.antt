-- The test for an I64 cell by its upper bits, and the definition of the integer instructions by their tests in the code's order. Assumes nothing.
use Prim.Native.Nat.{ℕ, ◌/◌, ◌%◌, ◌^◌, ◌<◌}
use mathlib.Core.Path.{◌≡◌, refl, sym, ◌∙◌, ap}
use mathlib.Core.Bool.{Bool, true, false, cond, not, ◌&&◌}
use mathlib.Core.List.{List}
use native.Mathlib.Omega.{arith}
use lib.Dec.{eqb, leb}
use lib.IntN.{nat_abs}
use lib.ListN.{get_or}
use borrow.Author.Tests.{lt-ltb, ne_eqb, ltb-true, eqb-true, eqb-false, not-true}
use Rattle.inst.proofs.Table.{values, entry}
use Rattle.inst.proofs.Laws.{never, and_left, and_right}
use Rattle.binary64.specs.Binary64.{is_nan}
use Rattle.nan.specs.declared.CellType.{CellType}
use Rattle.nan.specs.declared.CellType.TheVariants.{F64, I64, U64, Ptr, Unknown}
use Rattle.nan.specs.Cells as cells
use Rattle.nan.proofs.Laws.{abs_value}
use Rattle.machine.specs.declared.Machine.{Machine}
use Rattle.machine.specs.Step.{succeeds, trap, ◌must◌else◌then◌, is, type_known, number_of, Integer, IDIV, divides, of_cells, integer_step}
use Rattle.machine.specs.declared.Trap.TheVariants.{NotBothI64, UnknownType}
use Rattle.machine.specs.Traps.{trap_number}
use Rattle.machine.specs.Change.{onward, top, popped, replaced}
use Rattle.step_integer.specs.Kinds.{type_trap}
use Rattle.machine.proofs.Tests.{passes, fails, not_both_i64}

-- ---- I64 by the bits 48 to 62

abbrev i64_bits : ℕ → ℕ
i64_bits c = c / 2 ^ 48 % 2 ^ 15

-- of the sixteen tags 2 alone is an I64's, by computation
abbrev is_i64 : ℕ → Bool
is_i64 t = eqb (number_of (cells.tagged t)) (number_of I64)

tags : values is_i64 0 16 ≡ values (λ t. eqb t 2) 0 16
unfolding cells.tagged number_of
tags = refl

i64_tag : (t : ℕ) → t < 16 → is_i64 t ≡ eqb t 2
i64_tag t h = sym (entry false is_i64 16 t h) ∙ ap (λ (xs : List Bool). get_or xs t false) tags ∙ entry false (λ n. eqb n 2) 16 t h

module _ (c : ℕ) where
  nan_of_bits : i64_bits c ≡ 0x7FF2 → is_nan c ≡ true
  nan_of_bits e = lt-ltb 0x7ff0000000000000 (c % 2 ^ 63) (omega arith)

  tag_of_bits : i64_bits c ≡ 0x7FF2 → c / 2 ^ 48 % 16 ≡ 2
  tag_of_bits e = omega arith

  bits_of_tag : is_nan c ≡ true → c / 2 ^ 48 % 16 ≡ 2 → i64_bits c ≡ 0x7FF2
  bits_of_tag n t = omega (arith, ltb-true 0x7ff0000000000000 (c % 2 ^ 63) n)

  no_bits : (b : Bool) → is_nan c ≡ b → (i64_bits c ≡ 0x7FF2 → ⊥) → is I64 c ≡ false
  unfolding cells.type_of number_of
  no_bits true n bad = rw n (i64_tag (c / 2 ^ 48 % 16) (omega arith) ∙ ne_eqb (c / 2 ^ 48 % 16) 2 (λ t. bad (bits_of_tag n t)))
  no_bits false n bad = rw n

  is_bits : (b : Bool) → eqb (i64_bits c) 0x7FF2 ≡ b → b ≡ is I64 c
  unfolding cells.type_of cells.tagged number_of
  is_bits true e = let h = eqb-true _ _ e in rw (nan_of_bits h, tag_of_bits h)
  is_bits false e = sym (no_bits (is_nan c) refl (eqb-false _ _ e))

  pub is_i64_lem : eqb (i64_bits c) 0x7FF2 ≡ is I64 c
  is_i64_lem = is_bits (eqb (i64_bits c) 0x7FF2) refl

-- ---- an I64 cell is known

-- every type but Unknown is known
pub known_but : (t : CellType) → (t ≡ Unknown → ⊥) → not (eqb (number_of t) (number_of Unknown)) ≡ true
unfolding number_of
known_but F64 h = refl
known_but I64 h = refl
known_but U64 h = refl
known_but Ptr h = refl
known_but Unknown h = absurd (h refl)

known_of : (t : CellType) → eqb (number_of t) (number_of I64) ≡ true → not (eqb (number_of t) (number_of Unknown)) ≡ true
unfolding number_of
known_of t h = known_but t (λ e. never (rw e at h))

known_both : (a b : ℕ) → (is I64 a && is I64 b) ≡ true → (type_known a && type_known b) ≡ true
known_both a b h =
    let ka = known_of (cells.type_of a) (and_left (is I64 a) (is I64 b) h) in
    let kb = known_of (cells.type_of b) (and_right (is I64 a) (is I64 b) h) in
    rw (ka, kb)

-- ---- an integer instruction by its tests

module _ (k : Integer) (m : Machine) where
  pub integer_short : leb 2 m.height ≡ false → integer_step k m ≡ trap 20 m
  unfolding integer_step
  integer_short h = fails _ _ _ _ h

  module _ (h : leb 2 m.height ≡ true) where
    which : (b : Bool) → cond b 30 31 ≡ trap_number (cond b NotBothI64 UnknownType)
    which true = refl
    which false = refl

    pub integer_types : (is I64 (top (popped m)) && is I64 (top m)) ≡ false → integer_step k m ≡ trap (trap_number (type_trap (top (popped m)) (top m))) (popped m)
    unfolding type_trap
    integer_types e = not_both_i64 k m h e ∙ ap (λ (n : ℕ). trap n (popped m)) (which (type_known (top (popped m)) && type_known (top m)))

    module _ (e : (is I64 (top (popped m)) && is I64 (top m)) ≡ true) where
      typed : integer_step k m ≡ (popped m must divides k (top m) else 24 then succeeds (onward (replaced (of_cells k (top (popped m)) (top m)) (popped m))))
      unfolding integer_step
      typed = passes _ _ _ _ h ∙ passes _ _ _ _ (known_both _ _ e) ∙ passes _ _ _ _ e

      pub integer_zero : divides k (top m) ≡ false → integer_step k m ≡ trap 24 (popped m)
      integer_zero d = typed ∙ fails _ _ _ _ d

      pub integer_does : divides k (top m) ≡ true → integer_step k m ≡ succeeds (onward (replaced (of_cells k (top (popped m)) (top m)) (popped m)))
      integer_does d = typed ∙ passes _ _ _ _ d

-- IDIV's divisor
pub divisor : (b : ℕ) → divides IDIV b ≡ true → 0 < b % 2 ^ 48
unfolding divides
divisor b h = omega (arith, eqb-false (b % 2 ^ 48) 0 (rw abs_value at (not-true (eqb (nat_abs (cells.value b)) 0) h)))
