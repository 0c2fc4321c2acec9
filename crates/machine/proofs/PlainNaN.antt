-- A NaN's type, and what a plain NaN does, by the step's definitions. Assumes nothing.
use Prim.Native.Nat.{ℕ, zero, suc, ◌/◌, ◌%◌, ◌^◌, ◌≤◌, ◌<◌}
use mathlib.Core.Path.{◌≡◌, refl, sym, ◌∙◌, ap, subst}
use mathlib.Core.Bool.{Bool, true, false, cond, ◌&&◌, and-true, and-false}
use mathlib.Core.List.{List, [], ◌∷◌}
use mathlib.Core.Logic.{◌⊎◌, inl, inr}
use native.Mathlib.Omega.{arith}
use lib.Dec.{leb}
use lib.IntN.{pos}
use lib.ListN.{get_or, set}
use borrow.Author.Tests.{lt-ltb, le-leb, leb-true}
use Rattle.binary64.specs.Binary64.{is_nan, quiet, not_a_number, value, signed_whole, unsigned_whole, to_i64, to_u64, negative, below_zero}
use Rattle.binary64.proofs.Special.{nan_is, nan_result, special}
use Rattle.nan.specs.declared.CellType.{CellType}
use Rattle.nan.specs.declared.CellType.TheVariants.{F64, I64, Unknown}
use Rattle.nan.specs.Cells.{tagged, type_of}
use Rattle.inst.proofs.Table.{values, entry}
use Rattle.inst.proofs.Laws.{never}
use Rattle.machine.specs.declared.Machine.{Machine}
use Rattle.machine.specs.Change.{with_stack, moved, onward, top, popped, replaced}
use Rattle.machine.specs.Step.{Stepped, succeeds, outputs, trap, ill, ◌must◌else◌then◌, number_of, is, type_known, Integer, integer_step, Float, FADD, FSUB, FMUL, FDIV, of_floats, float_step, rule_of, convert}
use Rattle.machine.specs.PlainNaN.{types, TypesOfNaNs, PlainNaN, ConvertsToZero, TrapsWrongType, PlainNaNs, NaNResultConverts, ZeroByZeroConverts}
use Rattle.machine.proofs.Cases.{must_case}
use Rattle.machine.proofs.Tests.{not_both_i64}

-- ---- the type by the sixteen tags, computed

table : values tagged 0 16 ≡ types
unfolding tagged
table = refl

pub types_of_nans : TypesOfNaNs
unfolding type_of
types_of_nans c n =
    let t = c / 2 ^ 48 % 16 in
    rw n (sym (entry Unknown tagged 16 t (omega arith)) ∙ ap (λ (ts : List CellType). get_or ts t Unknown) table)

is_f64 : (c : ℕ) → PlainNaN c → type_of c ≡ F64
is_f64 c p = types_of_nans c p.0 ∙ ap (λ (t : ℕ). get_or types t Unknown) p.1

-- ---- conversions

module _ (m : Machine) (h : 0 < m.height) where
  zero_of : type_of (top m) ≡ F64 → to_i64 (top m) ≡ pos 0 → to_u64 (top m) ≡ 0 → below_zero (top m) ≡ false → ConvertsToZero m
  unfolding convert ◌must◌else◌then◌ rule_of number_of
  zero_of t i u b = let some = lt-ltb 0 m.height h in record { type_is = t; f2i = simp (some, t, i); f2u = simp (some, t, u, b) }

  nan_to_zero : PlainNaN (top m) → ConvertsToZero m
  unfolding to_i64 to_u64 signed_whole unsigned_whole below_zero negative
  nan_to_zero p = let v = nan_is (top m) p.0 in zero_of (is_f64 (top m) p) (rw v) (rw v) (rw v)

  zero_to_zero : top m ≡ 0 → ConvertsToZero m
  unfolding type_of value to_i64 to_u64 signed_whole unsigned_whole below_zero negative
  zero_to_zero e = zero_of (rw e) (rw e) (rw e) (rw e)

  not_whole : PlainNaN (top m) → TrapsWrongType m
  unfolding convert ◌must◌else◌then◌ rule_of number_of
  not_whole p =
      let some = lt-ltb 0 m.height h in
      let t = is_f64 (top m) p in
      record { i2f = simp (some, t); i2u = simp (some, t); u2i = simp (some, t); u2f = simp (some, t) }

-- ---- integer operations

module _ (k : Integer) (m : Machine) (h : 2 ≤ m.height) where
  -- where one operand isn't I64 but known, and x says whether the other is known
  trapped : (x : Bool) → (is I64 (top (popped m)) && is I64 (top m)) ≡ false → (type_known (top (popped m)) && type_known (top m)) ≡ x
      → integer_step k m ≡ trap (cond x 30 31) (popped m)
  trapped x i e = not_both_i64 k m (le-leb 2 m.height h) i ∙ ap (λ (y : Bool). trap (cond y 30 31) (popped m)) e

  as_last : PlainNaN (top m) → integer_step k m ≡ trap (cond (type_known (top (popped m))) 30 31) (popped m)
  unfolding number_of
  as_last p = let t = is_f64 (top m) p in trapped (type_known (top (popped m))) (simp (t, and-false)) (simp (t, and-true))

  as_below : PlainNaN (top (popped m)) → integer_step k m ≡ trap (cond (type_known (top m)) 30 31) (popped m)
  unfolding number_of
  as_below p = let t = is_f64 (top (popped m)) p in trapped (type_known (top m)) (simp t) (simp t)

-- ---- results of arithmetic

is_quiet : (k : Float) (a b : ℕ) → is_nan (of_floats k a b) ≡ true → of_floats k a b ≡ quiet
unfolding of_floats
is_quiet FADD = nan_result.0
is_quiet FSUB = nan_result.1
is_quiet FMUL = nan_result.2
is_quiet FDIV = nan_result.3

plain : (c : ℕ) → c ≡ quiet → PlainNaN c
plain c e = subst PlainNaN (sym e) (refl, refl)

pub plain_nans : PlainNaNs
plain_nans = record {
  converts = nan_to_zero;
  wrong_type = not_whole;
  last = as_last;
  below = as_below;
  results = λ k a b n. plain (of_floats k a b) (is_quiet k a b n);
}

-- a slot after a store: the value, or 0 past the end
slot_after : (xs : List ℕ) (i v : ℕ) → (get_or (set xs i v) i 0 ≡ v) ⊎ (get_or (set xs i v) i 0 ≡ 0)
slot_after [] i v = inr refl
slot_after (x ∷ xs) zero v = inl refl
slot_after (x ∷ xs) (suc i) v = slot_after xs i v

top_after : (v : ℕ) (m : Machine) → (top (onward (replaced v m)) ≡ v) ⊎ (top (onward (replaced v m)) ≡ 0)
unfolding with_stack moved
top_after v m = slot_after m.stack _ v

-- Q of the machine where a step succeeds
unfoldable After : (Machine → Type 0) → Stepped → Type 0
After Q (succeeds m) = Q m
After Q (outputs c m) = Unit {0}
After Q (trap t m) = Unit {0}
After Q ill = Unit {0}

-- whatever holds of the machine with the result in its place, over all that is on its stack, holds of what a float instruction leaves
float_leaves : (Q : Machine → Type 0) (k : Float) (m m' : Machine) → float_step k m ≡ succeeds m'
    → (2 ≤ m.height → Q (onward (replaced (of_floats k (top (popped m)) (top m)) (popped m)))) → Q m'
unfolding float_step After
float_leaves Q k m m' e q = subst (After Q) e (must_case (After Q) m (leb 2 m.height) 20 _ tt (λ h. q (leb-true 2 m.height h)))

module _ (k : Float) (m : Machine) (h : 2 ≤ m.height) where
  abbrev result : ℕ
  result = of_floats k (top (popped m)) (top m)

  abbrev left : Machine
  left = onward (replaced result (popped m))

  some_left : 0 < left.height
  unfolding with_stack moved
  some_left = omega arith

  quiet_left : result ≡ quiet → ConvertsToZero left
  quiet_left q = elim (top_after result (popped m)) [
    | inl e ↦ nan_to_zero left some_left (plain (top left) (e ∙ q))
    | inr e ↦ zero_to_zero left some_left e
  ]

  nan_left : is_nan (top left) ≡ true → ConvertsToZero left
  nan_left n = elim (top_after result (popped m)) [
    | inl e ↦ quiet_left (is_quiet k _ _ (subst (λ (c : ℕ). is_nan c ≡ true) e n))
    | inr e ↦ never (subst (λ (c : ℕ). is_nan c ≡ true) e n)
  ]

pub nan_result_converts : NaNResultConverts
nan_result_converts k m m' e = float_leaves (λ (x : Machine). is_nan (top x) ≡ true → ConvertsToZero x) k m m' e (nan_left k m)

pub zero_by_zero_converts : ZeroByZeroConverts
unfolding of_floats
zero_by_zero_converts s t m m' e x y =
    let q = (special s t 0 0 not_a_number not_a_number).zero_by_zero (top (popped m)) (top m) x y in
    (q, float_leaves ConvertsToZero FDIV m m' e (λ h. quiet_left FDIV m h q))
