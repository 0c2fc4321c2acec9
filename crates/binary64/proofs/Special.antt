-- The special cases of specs/SpecialCases hold, and only one pattern is a NaN result.
use mathlib.Core.Path.{◌≡◌, refl}
use Prim.Native.Nat.{ℕ, suc, ◌+◌, ◌%◌, ◌^◌, ◌≤◌}
use native.Mathlib.Nat.{le_refl, min-le_left}
use native.Mathlib.Omega.{arith}
use mathlib.Core.Bool.{Bool, true, false, not, beq, cond}
use borrow.Author.Tests.{ne_eqb, ltb-true}
use lib.Dec.{eqb}
use Rattle.binary64.specs.Binary64.{infinity, quiet, is_nan, Value, not_a_number, infinite, finite, value, with_sign, unlike, Exact, exact_sum, exact_product, exact_quotient, rounded, sum, opposite, product, quotient, sum_bits, difference_bits, product_bits, quotient_bits}
use Rattle.binary64.specs.Rounding.{round_pattern}
use Rattle.binary64.specs.Theorems.{SpecialCasesHold, NaNResultIsQuiet}

pub nan_is : (a : ℕ) → is_nan a ≡ true → value a ≡ not_a_number
unfolding value
nan_is a h = rw h

pub sum_nan : (x : Value) → sum x not_a_number ≡ quiet
unfolding sum
sum_nan not_a_number = refl
sum_nan (infinite s) = refl
sum_nan (finite s u) = refl

pub product_nan : (x : Value) → product x not_a_number ≡ quiet
unfolding product
product_nan not_a_number = refl
product_nan (infinite s) = refl
product_nan (finite s u) = refl

pub quotient_nan : (x : Value) → quotient x not_a_number ≡ quiet
unfolding quotient
quotient_nan not_a_number = refl
quotient_nan (infinite s) = refl
quotient_nan (finite s u) = refl

like : (s : Bool) → sum (infinite s) (infinite s) ≡ with_sign s infinity
unfolding sum
like true = refl
like false = refl

unlike_signs : (s : Bool) → sum (infinite s) (infinite (not s)) ≡ quiet
unfolding sum
unlike_signs true = refl
unlike_signs false = refl

like_opposite : (s : Bool) → sum (infinite s) (opposite (infinite (not s))) ≡ with_sign s infinity
unfolding sum opposite
like_opposite true = refl
like_opposite false = refl

nonzero : (u : ℕ) → eqb (suc u) 0 ≡ false
nonzero u = ne_eqb (suc u) 0 (λ e. omega arith)

-- from values to patterns
of_values : (f : Value → Value → ℕ) {x y : Value} {r : ℕ} → f x y ≡ r → (a b : ℕ) → value a ≡ x → value b ≡ y → f (value a) (value b) ≡ r
of_values f e a b p q = rw (p, q) e

pub special : SpecialCasesHold
unfolding sum_bits difference_bits product_bits quotient_bits sum opposite product quotient
special s t u v x y = record {
  nan_left = (of_values sum refl, of_values difference refl, of_values product refl, of_values quotient refl);
  nan_right = (of_values sum (sum_nan x), of_values difference (sum_nan x), of_values product (product_nan x), of_values quotient (quotient_nan x));
  sum_of_unlike_infinities = of_values sum (unlike_signs s);
  difference_of_like_infinities = of_values difference (unlike_signs s);
  zero_times_infinity = of_values product refl;
  infinity_times_zero = of_values product refl;
  zero_by_zero = of_values quotient refl;
  infinity_by_infinity = of_values quotient refl;
  nonzero_by_zero = of_values quotient (rw (nonzero u));
  sum_of_like_infinities = of_values sum (like s);
  infinity_plus_finite = of_values sum refl;
  finite_plus_infinity = of_values sum refl;
  difference_of_unlike_infinities = of_values difference (like_opposite s);
  infinity_minus_finite = of_values difference refl;
  finite_minus_infinity = of_values difference refl;
  infinity_times_infinity = of_values product refl;
  infinity_times_nonzero = of_values product (rw (nonzero v));
  nonzero_times_infinity = of_values product (rw (nonzero u));
  infinity_by_finite = of_values quotient refl;
  finite_by_infinity = of_values quotient refl;
}
  where
    difference : Value → Value → ℕ
    difference x y = sum x (opposite y)

-- ---- a NaN result is quiet: whatever else a result is, is no NaN

abbrev NaNIsQuiet : ℕ → Type 0
NaNIsQuiet r = is_nan r ≡ true → r ≡ quiet

is_quiet : NaNIsQuiet quiet
is_quiet n = refl

-- no pattern up to the infinity's is a NaN's, with either sign
up_to_infinity : (s : Bool) (m : ℕ) → m ≤ infinity → NaNIsQuiet (with_sign s m)
up_to_infinity true m h n = absurd (omega (arith, ltb-true infinity ((2 ^ 63 + m) % 2 ^ 63) n))
up_to_infinity false m h n = absurd (omega (arith, ltb-true infinity ((0 + m) % 2 ^ 63) n))

of_infinity : (s : Bool) → NaNIsQuiet (with_sign s infinity)
of_infinity s = up_to_infinity s infinity (le_refl infinity)

of_rounded : (e : Exact) → NaNIsQuiet (rounded e)
unfolding round_pattern
of_rounded e = up_to_infinity e.sign _ (min-le_left infinity _)

of_test : (b : Bool) {x y : ℕ} → NaNIsQuiet x → NaNIsQuiet y → NaNIsQuiet (cond b x y)
of_test true p q = p
of_test false p q = q

sum_quiet : (x y : Value) → NaNIsQuiet (sum x y)
unfolding sum
sum_quiet not_a_number y = is_quiet
sum_quiet (infinite s) not_a_number = is_quiet
sum_quiet (infinite s) (infinite t) = of_test (beq s t) (of_infinity s) is_quiet
sum_quiet (infinite s) (finite t v) = of_infinity s
sum_quiet (finite s u) not_a_number = is_quiet
sum_quiet (finite s u) (infinite t) = of_infinity t
sum_quiet (finite s u) (finite t v) = of_rounded (exact_sum s u t v)

product_quiet : (x y : Value) → NaNIsQuiet (product x y)
unfolding product
product_quiet not_a_number y = is_quiet
product_quiet (infinite s) not_a_number = is_quiet
product_quiet (infinite s) (infinite t) = of_infinity (unlike s t)
product_quiet (infinite s) (finite t v) = of_test (eqb v 0) is_quiet (of_infinity (unlike s t))
product_quiet (finite s u) not_a_number = is_quiet
product_quiet (finite s u) (infinite t) = of_test (eqb u 0) is_quiet (of_infinity (unlike s t))
product_quiet (finite s u) (finite t v) = of_rounded (exact_product s u t v)

quotient_quiet : (x y : Value) → NaNIsQuiet (quotient x y)
unfolding quotient
quotient_quiet not_a_number y = is_quiet
quotient_quiet (infinite s) not_a_number = is_quiet
quotient_quiet (infinite s) (infinite t) = is_quiet
quotient_quiet (infinite s) (finite t v) = of_infinity (unlike s t)
quotient_quiet (finite s u) not_a_number = is_quiet
quotient_quiet (finite s u) (infinite t) = up_to_infinity (unlike s t) 0 (omega arith)
quotient_quiet (finite s u) (finite t v) = of_test (eqb v 0) (of_test (eqb u 0) is_quiet (of_infinity (unlike s t))) (of_rounded (exact_quotient s u t v))

pub nan_result : NaNResultIsQuiet
unfolding sum_bits difference_bits product_bits quotient_bits
nan_result =
    (λ a b. sum_quiet (value a) (value b), λ a b. sum_quiet (value a) (opposite (value b)), λ a b. product_quiet (value a) (value b), λ a b. quotient_quiet (value a) (value b))
