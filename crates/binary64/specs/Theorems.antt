-- What the operations of Binary64 are, as statements. Definitions only: `rounding_theorems` in src/lib.rt states that they hold.
use Rattle.std.specs.Prelude.{ℕ, ◌*◌, ◌-◌, ◌^◌, ◌≤◌, ◌<◌, ◌≡◌, Bool, true, false, not, ◌&&◌}
use Rattle.binary64.specs.Rounding.{NearestEven, round_pattern}
use Rattle.binary64.specs.Binary64.{infinity, quiet, is_nan, Value, finite, value, with_sign, Exact, exactly, exact_sum, exact_difference, exact_product, exact_quotient, sum_bits, difference_bits, product_bits, quotient_bits, of_whole}
use Rattle.binary64.specs.SpecialCases.{EachOperation, SpecialCases}

-- a fraction of units is rounded to a nearest pattern, and at a tie to an even one
abbrev pub RoundsToNearestEven : Type 0
RoundsToNearestEven = (n den : ℕ) → 0 < den → NearestEven 52 infinity n den (round_pattern 52 infinity n den)

-- there is only one such pattern
abbrev pub OnlyOneIsNearestEven : Type 0
OnlyOneIsNearestEven = (n den p q : ℕ) → 0 < den → NearestEven 52 infinity n den p → NearestEven 52 infinity n den q → p ≡ q

-- it is the infinity's from 2 ^ 1024 - 2 ^ 970 on, which is so many units, and not below
abbrev pub OverflowsFrom : Type 0
OverflowsFrom =
    (n den : ℕ) → 0 < den
    → (round_pattern 52 infinity n den ≡ infinity → (2 ^ 1024 - 2 ^ 970) * 2 ^ 1074 * den ≤ n)
    × ((2 ^ 1024 - 2 ^ 970) * 2 ^ 1074 * den ≤ n → round_pattern 52 infinity n den ≡ infinity)

-- the pattern r is the exact result e, rounded to nearest, ties to even
pub record IsRounded (e : Exact) (r : ℕ) : Type 0 where
  pub magnitude : ℕ
  pub has_sign : r ≡ with_sign e.sign magnitude
  pub nearest : NearestEven 52 infinity e.numerator e.denominator magnitude

-- where the exact result is what a double d stands for, it is rounded to d
abbrev pub ExactResultIsGiven : Type 0
ExactResultIsGiven =
    (e : Exact) (d u r : ℕ) → 0 < e.denominator → d < 2 ^ 64 → value d ≡ finite e.sign u → e.numerator ≡ u * e.denominator → IsRounded e r → r ≡ d

-- P holds of all patterns a and b that stand for finite numbers, those being ±u and ±v units
abbrev pub OfFinite : ((a b : ℕ) (s : Bool) (u : ℕ) (t : Bool) (v : ℕ) → Type 0) → Type 0
OfFinite P = (a b : ℕ) (s : Bool) (u : ℕ) (t : Bool) (v : ℕ) → value a ≡ finite s u → value b ≡ finite t v → P a b s u t v

-- of finite operands each operation gives the exact result, rounded once
abbrev pub SumIsRounded : Type 0
SumIsRounded = OfFinite (λ a b s u t v. IsRounded (exact_sum s u t v) (sum_bits a b))

-- an exact sum of 0 is -0 where both operands are negative, and +0 otherwise
abbrev pub ZeroSumIsSigned : Type 0
ZeroSumIsSigned = OfFinite (λ a b s u t v. (exact_sum s u t v).numerator ≡ 0 → sum_bits a b ≡ with_sign (s && t) 0)

abbrev pub DifferenceIsRounded : Type 0
DifferenceIsRounded = OfFinite (λ a b s u t v. IsRounded (exact_difference s u t v) (difference_bits a b))

-- an exact difference of 0 is -0 where only the left operand is negative, which is -0 - +0, and +0 otherwise
abbrev pub ZeroDifferenceIsSigned : Type 0
ZeroDifferenceIsSigned = OfFinite (λ a b s u t v. (exact_difference s u t v).numerator ≡ 0 → difference_bits a b ≡ with_sign (s && not t) 0)

abbrev pub ProductIsRounded : Type 0
ProductIsRounded = OfFinite (λ a b s u t v. IsRounded (exact_product s u t v) (product_bits a b))

abbrev pub QuotientIsRounded : Type 0
QuotientIsRounded = OfFinite (λ a b s u t v. 0 < v → IsRounded (exact_quotient s u t v) (quotient_bits a b))

-- of infinities and NaNs, and of a zero divisor, each gives what the standard lists
abbrev pub SpecialCasesHold : Type 0
SpecialCasesHold = (s t : Bool) (u v : ℕ) (x y : Value) → SpecialCases s t u v x y

-- where the result of any operands is a NaN, it is that one pattern, `quiet`
abbrev pub NaNResultIsQuiet : Type 0
NaNResultIsQuiet = EachOperation (λ op. (a b : ℕ) → is_nan (op a b) ≡ true → op a b ≡ quiet)

-- a whole number converts to the nearest double, and up to 2 ^ 53 to itself
abbrev pub WholeIsRounded : Type 0
WholeIsRounded = (n : ℕ) → IsRounded (exactly false (n * 2 ^ 1074) 1) (of_whole n)

abbrev pub WholeIsExact : Type 0
WholeIsExact = (n : ℕ) → n ≤ 2 ^ 53 → value (of_whole n) ≡ finite false (n * 2 ^ 1074)

pub record Theorems : Type 0 where
  pub nearest : RoundsToNearestEven
  pub only_one : OnlyOneIsNearestEven
  pub overflows : OverflowsFrom
  pub exact : ExactResultIsGiven
  pub sum : SumIsRounded
  pub zero_sum : ZeroSumIsSigned
  pub difference : DifferenceIsRounded
  pub zero_difference : ZeroDifferenceIsSigned
  pub product : ProductIsRounded
  pub quotient : QuotientIsRounded
  pub special : SpecialCasesHold
  pub nan_result : NaNResultIsQuiet
  pub whole : WholeIsRounded
  pub whole_exact : WholeIsExact
