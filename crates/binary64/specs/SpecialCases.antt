-- What the four operations give for infinities, zero divisors and NaNs, by the clauses of IEEE 754-2019. Definitions only.
use Rattle.std.specs.Prelude.{ℕ, suc, ◌≡◌, Bool, not}
use Rattle.binary64.specs.Binary64.{infinity, quiet, Value, not_a_number, infinite, finite, value, with_sign, unlike, sum_bits, difference_bits, product_bits, quotient_bits}

-- the operation gives the pattern r for all patterns that stand for x (left) and y (right)
abbrev pub ◌of◌and◌gives◌ : (ℕ → ℕ → ℕ) → Value → Value → ℕ → Type 0
◌of◌and◌gives◌ op x y r = (a b : ℕ) → value a ≡ x → value b ≡ y → op a b ≡ r

infix 1 ◌of◌and◌gives◌
abbrev pub EachOperation : ((ℕ → ℕ → ℕ) → Type 0) → Type 0
EachOperation P = P sum_bits × P difference_bits × P product_bits × P quotient_bits

-- s and t are the operands' signs. `finite s 0` is a zero, `finite s (suc u)` a finite number that isn't, and x and y are anything
pub record SpecialCases (s t : Bool) (u v : ℕ) (x y : Value) : Type 0 where
  -- 6.2: with a NaN operand the result is a quiet NaN, here always 0x7ff8000000000000
  pub nan_left : EachOperation (λ op. op of not_a_number and y gives quiet)
  pub nan_right : EachOperation (λ op. op of x and not_a_number gives quiet)
  -- 7.2, invalid operation: the result is that NaN
  pub sum_of_unlike_infinities : sum_bits of infinite s and infinite (not s) gives quiet
  pub difference_of_like_infinities : difference_bits of infinite s and infinite s gives quiet
  pub zero_times_infinity : product_bits of finite s 0 and infinite t gives quiet
  pub infinity_times_zero : product_bits of infinite s and finite t 0 gives quiet
  pub zero_by_zero : quotient_bits of finite s 0 and finite t 0 gives quiet
  pub infinity_by_infinity : quotient_bits of infinite s and infinite t gives quiet
  -- 7.3, division by zero: an infinity, negative where one operand is and the other is not
  pub nonzero_by_zero : quotient_bits of finite s (suc u) and finite t 0 gives with_sign (unlike s t) infinity
  -- 6.1, infinity arithmetic: sums and differences
  pub sum_of_like_infinities : sum_bits of infinite s and infinite s gives with_sign s infinity
  pub infinity_plus_finite : sum_bits of infinite s and finite t v gives with_sign s infinity
  pub finite_plus_infinity : sum_bits of finite s u and infinite t gives with_sign t infinity
  pub difference_of_unlike_infinities : difference_bits of infinite s and infinite (not s) gives with_sign s infinity
  pub infinity_minus_finite : difference_bits of infinite s and finite t v gives with_sign s infinity
  pub finite_minus_infinity : difference_bits of finite s u and infinite t gives with_sign (not t) infinity
  -- and products and quotients, by 6.3 negative where one operand is and the other is not
  pub infinity_times_infinity : product_bits of infinite s and infinite t gives with_sign (unlike s t) infinity
  pub infinity_times_nonzero : product_bits of infinite s and finite t (suc v) gives with_sign (unlike s t) infinity
  pub nonzero_times_infinity : product_bits of finite s (suc u) and infinite t gives with_sign (unlike s t) infinity
  pub infinity_by_finite : quotient_bits of infinite s and finite t v gives with_sign (unlike s t) infinity
  pub finite_by_infinity : quotient_bits of finite s u and infinite t gives with_sign (unlike s t) 0
