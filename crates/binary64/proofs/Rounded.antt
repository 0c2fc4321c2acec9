-- The theorems of specs/Theorems, proved: those on rounding from Bounded, Unique and Exact, those on the operations from them.
use mathlib.Core.Path.{◌≡◌, refl, sym, ap, subst, ◌∙◌}
use Prim.Native.Nat.{ℕ, ◌+◌, ◌-◌, ◌*◌, ◌^◌, ◌≤◌, ◌<◌}
use native.Mathlib.Nat.{le_refl, le_of_lt, lt_irrefl, mul-one, mul_assoc, add-mul}
use native.Mathlib.Omega.{arith}
use mathlib.Core.Bool.{Bool, true, false, not, ◌&&◌, and-false, beq, cond}
use borrow.Author.Tests.{ne_eqb, ltb-true, le-ltb}
use lib.Dec.{ltb}
use lib.Pow.{pow_pos}
use Rattle.binary64.proofs.Bounded.{round_nearest}
use Rattle.binary64.proofs.Unique.{unique, over, reaches}
use Rattle.binary64.proofs.Exact.{exact_nearest, signed_value, Encoded, encoded, value_encoded, Pattern, pattern, pattern_of, below_infinity}
use Rattle.binary64.proofs.Special.{special, nan_result}
use Rattle.binary64.specs.Rounding.{count, units, NearestEven, round_pattern}
use Rattle.binary64.specs.Binary64.{infinity, finite, value, with_sign, Exact, exactly, exact_sum, exact_product, exact_quotient, rounded, sum, opposite, product, quotient, sum_bits, difference_bits, product_bits, quotient_bits, of_whole}
use Rattle.binary64.specs.Theorems.{Theorems, IsRounded, RoundsToNearestEven, OnlyOneIsNearestEven, OverflowsFrom, ExactResultIsGiven, SumIsRounded, ZeroSumIsSigned, DifferenceIsRounded, ZeroDifferenceIsSigned, ProductIsRounded, QuotientIsRounded, WholeIsRounded, WholeIsExact}

nearest : RoundsToNearestEven
nearest n den D = round_nearest 52 infinity n den (omega arith) D

only_one : OnlyOneIsNearestEven
only_one n den p q D P Q = unique 52 infinity n den D p q P Q

-- the largest finite pattern
abbrev last : ℕ
last = 0x7fefffffffffffff

-- halfway between it and the infinity
abbrev edge : ℕ
edge = (2 ^ 1024 - 2 ^ 970) * 2 ^ 1074

overflows : OverflowsFrom
overflows n den D =
    let P = nearest n den D in (
      λ e. half (edge * den) _ twice (over 52 last n den refl D (round_pattern 52 infinity n den) P e),
      λ h. reaches 52 last n den refl D (round_pattern 52 infinity n den) P (double (edge * den) _ twice h),
    )
  where
    twice : units 52 last * den + units 52 infinity * den ≡ 2 * (edge * den)
    twice = sym (add-mul (units 52 last) (units 52 infinity) den) ∙ mul_assoc 2 edge den

    half : (d T : ℕ) → T ≡ 2 * d → T ≤ 2 * n → d ≤ n
    half d T e h = omega arith

    double : (d T : ℕ) → T ≡ 2 * d → d ≤ n → T ≤ 2 * n
    double d T e h = omega arith

-- ---- exact results
-- the pattern p of an exact result is the only nearest one
only_exact : (n den p q : ℕ) → 0 < den → p < infinity → n ≡ units 52 p * den → NearestEven 52 infinity n den q → q ≡ p
only_exact n den p q D h e Q = only_one n den q p D Q (exact_nearest 52 infinity n den p D (le_of_lt h) e)

exact : ExactResultIsGiven
exact e d u r D B v N R = go (value_encoded d e.sign u B v)
  where
    go : Encoded d e.sign u → r ≡ d
    go (encoded p h f g) =
        let q : R.magnitude ≡ p = only_exact e.numerator e.denominator p R.magnitude D h (N ∙ ap (λ (z : ℕ). z * e.denominator) (sym f)) R.nearest in
        R.has_sign ∙ ap (with_sign e.sign) q ∙ sym g

-- ---- the operations
is_rounded : (e : Exact) → 0 < e.denominator → IsRounded e (rounded e)
is_rounded e D = record { magnitude = round_pattern 52 infinity e.numerator e.denominator; has_sign = refl; nearest = nearest e.numerator e.denominator D }

sum_fraction : (s : Bool) (u : ℕ) (t : Bool) (v : ℕ) → 0 < (exact_sum s u t v).denominator
sum_fraction s u t v = go (beq s t) (ltb u v) _ _ _ (le_refl 1) (le_refl 1) (le_refl 1)
  where
    go : (k x : Bool) (e f g : Exact) → 0 < e.denominator → 0 < f.denominator → 0 < g.denominator → 0 < (cond k e (cond x f g)).denominator
    go true x e f g p q r = p
    go false true e f g p q r = q
    go false false e f g p q r = r

sum_rounded : SumIsRounded
unfolding sum_bits sum
sum_rounded a b s u t v p q = rw (p, q) (is_rounded (exact_sum s u t v) (sum_fraction s u t v))

zero_pattern : round_pattern 52 infinity 0 1 ≡ 0
unfolding round_pattern count
zero_pattern = refl

-- of unlike signs: the magnitudes are equal, and neither is the larger
unlike_zero : (s t : Bool) (u v : ℕ) (x : Bool) → ltb u v ≡ x → (cond x (exactly t (v - u) 1) (exactly (s && ltb v u) (u - v) 1)).numerator ≡ 0
    → rounded (cond x (exactly t (v - u) 1) (exactly (s && ltb v u) (u - v) 1)) ≡ 0
unlike_zero s t u v true h e = absurd (omega (arith, ltb-true u v h))
unlike_zero s t u v false h e = let l : u ≤ v = omega arith in simp (le-ltb v u l, and-false, e, zero_pattern)

-- the sign of an exact sum of 0, by the operands' signs
zero_signed : (s : Bool) (u : ℕ) (t : Bool) (v : ℕ) → (exact_sum s u t v).numerator ≡ 0 → rounded (exact_sum s u t v) ≡ with_sign (s && t) 0
zero_signed true u true v e = simp (e, zero_pattern)
zero_signed false u false v e = simp (e, zero_pattern)
zero_signed true u false v e = unlike_zero true false u v (ltb u v) refl e
zero_signed false u true v e = unlike_zero false true u v (ltb u v) refl e

zero_sum : ZeroSumIsSigned
unfolding sum_bits sum
zero_sum a b s u t v p q e = rw (p, q) (zero_signed s u t v e)

zero_difference : ZeroDifferenceIsSigned
unfolding difference_bits sum opposite
zero_difference a b s u t v p q e = rw (p, q) (zero_signed s u (not t) v e)

difference_rounded : DifferenceIsRounded
unfolding difference_bits sum opposite
difference_rounded a b s u t v p q = rw (p, q) (is_rounded (exact_sum s u (not t) v) (sum_fraction s u (not t) v))

product_rounded : ProductIsRounded
unfolding product_bits product
product_rounded a b s u t v p q = rw (p, q) (is_rounded (exact_product s u t v) (pow_pos 1074))

quotient_rounded : QuotientIsRounded
unfolding quotient_bits quotient
quotient_rounded a b s u t v p q D = rw (p, q, ne_eqb v 0 (λ e. lt_irrefl 0 (subst (λ (z : ℕ). 0 < z) e D))) (is_rounded (exact_quotient s u t v) D)

-- ---- whole numbers
whole_rounded : WholeIsRounded
unfolding of_whole
whole_rounded n = is_rounded (exactly false (n * 2 ^ 1074) 1) (le_refl 1)

whole_exact : WholeIsExact
unfolding of_whole
whole_exact n h = go (pattern_of 52 1074 n h)
  where
    go : Pattern 52 (n * 2 ^ 1074) → value (rounded (exactly false (n * 2 ^ 1074) 1)) ≡ finite false (n * 2 ^ 1074)
    go (pattern p e) =
        let l : p < infinity = below_infinity n p h e in
        let q = only_exact (n * 2 ^ 1074) 1 p _ (le_refl 1) l (sym (mul-one (units 52 p) ∙ e)) (nearest (n * 2 ^ 1074) 1 (le_refl 1)) in
        ap (λ (z : ℕ). value (with_sign false z)) q ∙ signed_value false p l ∙ ap (finite false) e

pub theorems : Theorems
theorems = record {
  nearest = nearest;
  only_one = only_one;
  overflows = overflows;
  exact = exact;
  sum = sum_rounded;
  zero_sum = zero_sum;
  difference = difference_rounded;
  zero_difference = zero_difference;
  product = product_rounded;
  quotient = quotient_rounded;
  special = special;
  nan_result = nan_result;
  whole = whole_rounded;
  whole_exact = whole_exact;
}
