-- IEEE 754's binary64 on bit patterns, over whole numbers: what a pattern stands for, the four operations, and the conversions. Definitions only.
use Rattle.std.specs.Prelude.{ℕ, ◌+◌, ◌-◌, ◌*◌, ◌/◌, ◌%◌, ◌^◌, min, Bool, true, false, not, ◌&&◌, cond, leb, ltb, eqb, ℤ, pos, neg_ℤ}
use Rattle.std.specs.Bool.{beq}
use Rattle.binary64.specs.Rounding.{units, round_pattern}

-- the pattern of the positive infinity, and the one that every NaN result has
abbrev pub infinity : ℕ
infinity = 0x7ff0000000000000

abbrev pub quiet : ℕ
quiet = 0x7ff8000000000000

-- a NaN's pattern: an exponent of ones only, and digits that aren't all 0
abbrev pub is_nan : ℕ → Bool
is_nan b = ltb infinity (b % 2 ^ 63)

-- what a pattern stands for. `finite s u` is u * 2 ^ -1074, negative where s is true
pub data Value : Type 0 where
  not_a_number : Value
  infinite : Bool → Value
  finite : Bool → ℕ → Value

unfoldable pub value : ℕ → Value
value b =
    let s = leb (2 ^ 63) b in
    let m = b % 2 ^ 63 in
    cond (is_nan b) not_a_number (cond (eqb m infinity) (infinite s) (finite s (units 52 m)))

-- the pattern with the sign s and the magnitude's pattern m
abbrev pub with_sign : Bool → ℕ → ℕ
with_sign s m = cond s (2 ^ 63) 0 + m

-- ---- exact results: numerator / denominator * 2 ^ -1074, negative where sign is true. A zero has a sign too
pub record Exact : Type 0 where
  pub sign : Bool
  pub numerator : ℕ
  pub denominator : ℕ

abbrev pub exactly : Bool → ℕ → ℕ → Exact
exactly s n den = record { sign = s; numerator = n; denominator = den }

-- ±u + ±v. A zero is negative where both are negative, and positive otherwise
abbrev pub exact_sum : Bool → ℕ → Bool → ℕ → Exact
exact_sum s u t v = cond (beq s t) (exactly s (u + v) 1) (cond (ltb u v) (exactly t (v - u) 1) (exactly (s && ltb v u) (u - v) 1))

abbrev pub exact_difference : Bool → ℕ → Bool → ℕ → Exact
exact_difference s u t v = exact_sum s u (not t) v

-- negative where one is and the other is not
abbrev pub unlike : Bool → Bool → Bool
unlike s t = not (beq s t)

abbrev pub exact_product : Bool → ℕ → Bool → ℕ → Exact
exact_product s u t v = exactly (unlike s t) (u * v) (2 ^ 1074)

abbrev pub exact_quotient : Bool → ℕ → Bool → ℕ → Exact
exact_quotient s u t v = exactly (unlike s t) (u * 2 ^ 1074) v

-- rounded to nearest, ties to even: `IsRounded` of Theorems holds of it
abbrev pub rounded : Exact → ℕ
rounded e = with_sign e.sign (round_pattern 52 infinity e.numerator e.denominator)

-- ---- the operations, on values and on patterns
unfoldable pub sum : Value → Value → ℕ
sum not_a_number y = quiet
sum (infinite s) not_a_number = quiet
sum (infinite s) (infinite t) = cond (beq s t) (with_sign s infinity) quiet
sum (infinite s) (finite t v) = with_sign s infinity
sum (finite s u) not_a_number = quiet
sum (finite s u) (infinite t) = with_sign t infinity
sum (finite s u) (finite t v) = rounded (exact_sum s u t v)

unfoldable pub opposite : Value → Value
opposite not_a_number = not_a_number
opposite (infinite s) = infinite (not s)
opposite (finite s u) = finite (not s) u

unfoldable pub product : Value → Value → ℕ
product not_a_number y = quiet
product (infinite s) not_a_number = quiet
product (infinite s) (infinite t) = with_sign (unlike s t) infinity
product (infinite s) (finite t v) = cond (eqb v 0) quiet (with_sign (unlike s t) infinity)
product (finite s u) not_a_number = quiet
product (finite s u) (infinite t) = cond (eqb u 0) quiet (with_sign (unlike s t) infinity)
product (finite s u) (finite t v) = rounded (exact_product s u t v)

unfoldable pub quotient : Value → Value → ℕ
quotient not_a_number y = quiet
quotient (infinite s) not_a_number = quiet
quotient (infinite s) (infinite t) = quiet
quotient (infinite s) (finite t v) = with_sign (unlike s t) infinity
quotient (finite s u) not_a_number = quiet
quotient (finite s u) (infinite t) = with_sign (unlike s t) 0
quotient (finite s u) (finite t v) = cond (eqb v 0) (cond (eqb u 0) quiet (with_sign (unlike s t) infinity)) (rounded (exact_quotient s u t v))

unfoldable pub sum_bits : ℕ → ℕ → ℕ
sum_bits a b = sum (value a) (value b)

unfoldable pub difference_bits : ℕ → ℕ → ℕ
difference_bits a b = sum (value a) (opposite (value b))

unfoldable pub product_bits : ℕ → ℕ → ℕ
product_bits a b = product (value a) (value b)

unfoldable pub quotient_bits : ℕ → ℕ → ℕ
quotient_bits a b = quotient (value a) (value b)

-- ---- to a whole number: toward zero, to the nearest end of the range where it is out of it, and 0 for a NaN
unfoldable pub signed_whole : Value → ℤ
signed_whole not_a_number = pos 0
signed_whole (infinite true) = neg_ℤ (pos (2 ^ 63))
signed_whole (infinite false) = pos (2 ^ 63 - 1)
signed_whole (finite true u) = neg_ℤ (pos (min (u / 2 ^ 1074) (2 ^ 63)))
signed_whole (finite false u) = pos (min (u / 2 ^ 1074) (2 ^ 63 - 1))

unfoldable pub unsigned_whole : Value → ℕ
unsigned_whole not_a_number = 0
unsigned_whole (infinite true) = 0
unsigned_whole (infinite false) = 2 ^ 64 - 1
unsigned_whole (finite true u) = 0
unsigned_whole (finite false u) = min (u / 2 ^ 1074) (2 ^ 64 - 1)

unfoldable pub to_i64 : ℕ → ℤ
to_i64 a = signed_whole (value a)

unfoldable pub to_u64 : ℕ → ℕ
to_u64 a = unsigned_whole (value a)

-- ---- from a whole number, rounded
unfoldable pub of_whole : ℕ → ℕ
of_whole n = rounded (exactly false (n * 2 ^ 1074) 1)

-- ---- below zero: not so for -0 and a NaN
unfoldable pub negative : Value → Bool
negative not_a_number = false
negative (infinite s) = s
negative (finite s u) = s && ltb 0 u

unfoldable pub below_zero : ℕ → Bool
below_zero a = negative (value a)
