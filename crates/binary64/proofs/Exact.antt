-- A fraction that is a pattern's units is rounded to that pattern; which patterns finite doubles have; and which whole numbers are doubles.
use mathlib.Core.Path.{◌≡◌, refl, sym, ap, ◌∙◌, subst}
use mathlib.Core.Logic.{inl, inr}
use Prim.Native.Nat.{ℕ, zero, suc, ◌+◌, ◌*◌, ◌%◌, ◌^◌, ◌≤◌, ◌<◌}
use native.Mathlib.Nat.{le_trans, le_of_eq, le_of_lt, lt_irrefl, not-le_of_lt, mul-le-mul_right, mul_assoc, pow-succ', two-pow-succ, eq_of_mul-eq-mul_right}
use native.Mathlib.Omega.{arith}
use mathlib.Core.Bool.{Bool, true, false, cond}
use borrow.Author.Tests.{ltb-false, le-ltb, le-leb, lt-leb, leb-true, leb-false, eqb-false, ne_eqb}
use lib.Arith.{lt_of_le-ne}
use lib.Dec.{T, leb, eqb, lit<}
use Rattle.binary64.proofs.Unbounded.{lt_or_ge, carried}
use Rattle.binary64.proofs.Bounded.{units_le}
use Rattle.binary64.specs.Rounding.{apart, units, NearestEven}
use Rattle.binary64.specs.Binary64.{infinity, is_nan, not_a_number, infinite, finite, value, with_sign}

-- ---- nothing is nearer than the value itself, and nothing else as near
module _ (w top n den p : ℕ) (D : 0 < den) (H : p ≤ top) (E : n ≡ units w p * den) where
  nearer : (A X N : ℕ) → N ≡ A → apart A N ≤ apart X N
  nearer A X N e = omega arith

  same : (A X N : ℕ) → N ≡ A → apart X N ≡ apart A N → X ≡ A
  same A X N e k = omega arith

  pub exact_nearest : NearestEven w top n den p
  exact_nearest = record {
    within = H;
    near = λ q l. nearer (units w p * den) (units w q * den) n E;
    even = λ q l ne k. absurd (ne (eq_of_mul-eq-mul_right den D (units w q) (units w p) (same (units w p * den) (units w q * den) n E k)));
  }

-- ---- a finite double's pattern is one below the infinity's, with a sign
split_value : (b : ℕ) (s : Bool) (m : ℕ) → m < infinity → leb (2 ^ 63) b ≡ s → b % 2 ^ 63 ≡ m → value b ≡ finite s (units 52 m)
unfolding value
split_value b s m h e f = rw (e, f, le-ltb infinity m (le_of_lt h), ne_eqb m infinity (λ q. lt_irrefl m (subst (λ (z : ℕ). m < z) (sym q) h)))

pub signed_value : (s : Bool) (p : ℕ) → p < infinity → value (with_sign s p) ≡ finite s (units 52 p)
signed_value true p h = split_value (2 ^ 63 + p) true p h (le-leb (2 ^ 63) (2 ^ 63 + p) (omega arith)) (omega arith)
signed_value false p h = split_value (0 + p) false p h (lt-leb (2 ^ 63) (0 + p) (omega arith)) (omega arith)

-- d is the pattern of ±u
pub data Encoded (d : ℕ) (s : Bool) (u : ℕ) : Type 0 where
  encoded : (p : ℕ) → p < infinity → units 52 p ≡ u → d ≡ with_sign s p → Encoded d s u

split : (d : ℕ) (t : Bool) → d < 2 ^ 64 → leb (2 ^ 63) d ≡ t → d ≡ with_sign t (d % 2 ^ 63)
split d true h e = omega (arith, leb-true (2 ^ 63) d e)
split d false h e = omega (arith, leb-false (2 ^ 63) d e)

module _ (d : ℕ) (s : Bool) (u : ℕ) (H : d < 2 ^ 64) where
  abbrev m : ℕ
  m = d % 2 ^ 63

  abbrev t : Bool
  t = leb (2 ^ 63) d

  no : true ≡ false → Encoded d s u
  no q = absurd (subst T q tt)

  by_tests : (x y : Bool) → is_nan d ≡ x → eqb m infinity ≡ y → cond x not_a_number (cond y (infinite t) (finite t (units 52 m))) ≡ finite s u → Encoded d s u
  by_tests true y f g q = no cc
  by_tests false true f g q = no cc
  by_tests false false f g q =
      let i : t ≡ s = cc in
      let j : units 52 m ≡ u = cc in
      encoded m (lt_of_le-ne (ltb-false infinity m f) (eqb-false m infinity g)) j (split d t H refl ∙ ap (λ (z : Bool). with_sign z m) i)

  pub value_encoded : value d ≡ finite s u → Encoded d s u
  unfolding value
  value_encoded e = by_tests (is_nan d) (eqb m infinity) refl refl e

-- ---- a number of at most w + 1 digits times a power of two is the units of a pattern
pub data Pattern (w v : ℕ) : Type 0 where
  pattern : (p : ℕ) → units w p ≡ v → Pattern w v

pub pattern_of : (w k c : ℕ) → c ≤ 2 ^ suc w → Pattern w (c * 2 ^ k)
pattern_of w zero c C = pattern (0 * 2 ^ w + c) (carried w 0 c C (λ h. absurd (lt_irrefl 0 h)))
pattern_of w (suc k) c C = elim (lt_or_ge c (2 ^ w)) [
  | inl l ↦ subst (Pattern w) (mul_assoc c 2 (2 ^ k) ∙ ap (λ (z : ℕ). c * z) (sym (pow-succ' 2 k))) (pattern_of w k (c * 2) (omega (arith, two-pow-succ w)))
  | inr g ↦ pattern (suc k * 2 ^ w + c) (carried w (suc k) c C (λ _. g))
]

-- a whole number up to 2 ^ 53 is a finite double's
pub below_infinity : (n p : ℕ) → n ≤ 2 ^ 53 → units 52 p ≡ n * 2 ^ 1074 → p < infinity
below_infinity n p h e = elim (lt_or_ge p infinity) [
  | inl l ↦ l
  | inr g ↦ absurd (not-le_of_lt (lit< tt) (le_trans (units_le 52 infinity p g) (le_trans (le_of_eq e) (mul-le-mul_right (2 ^ 1074) h))))
]
