-- Binary floating point's rule for rounding, over whole numbers. Definitions only.
-- A pattern is a bit pattern without its sign: an exponent's field above w digits. A magnitude is counted in units of the smallest positive value.
use Rattle.std.specs.Prelude.{ℕ, zero, suc, ◌+◌, ◌-◌, ◌*◌, ◌/◌, ◌%◌, ◌^◌, ◌≤◌, min, ◌≡◌, cond, ltb}

-- how far apart two numbers are
abbrev pub apart : ℕ → ℕ → ℕ
apart a b = (a - b) + (b - a)

-- the magnitude, in units, of an exponent's field and the w digits below the leading one. A field of 0 has no leading one, and counts as a field of 1
abbrev pub field_units : ℕ → ℕ → ℕ → ℕ
field_units w zero t = t
field_units w (suc x) t = (2 ^ w + t) * 2 ^ x

-- the magnitude of a pattern. That of an infinity's pattern comes out as the power of two at which the finite ones end
abbrev pub units : ℕ → ℕ → ℕ
units w p = field_units w (p / 2 ^ w) (p % 2 ^ w)

-- The pattern p, of those up to `top`, is nearest to n / den units. Where another value is as near, p is even.
-- Distances are compared multiplied by den.
pub record NearestEven (w top n den p : ℕ) : Type 0 where
  pub within : p ≤ top
  pub near : (q : ℕ) → q ≤ top → apart (units w p * den) n ≤ apart (units w q * den) n
  pub even : (q : ℕ) → q ≤ top → (units w q ≡ units w p → ⊥) → apart (units w q * den) n ≡ apart (units w p * den) n → p % 2 ≡ 0

-- how many binary digits n has, for n up to d: none for 0
unfoldable pub count : ℕ → ℕ → ℕ
count zero n = zero
count (suc d) zero = zero
count (suc d) (suc n) = suc (count d (suc n / 2))

-- a / b to the nearest whole number, by how twice the remainder compares with b: at a tie to the even one
abbrev pub closest : ℕ → ℕ → ℕ
closest a b = cond (ltb (a % b * 2) b) (a / b) (cond (ltb b (a % b * 2)) (suc (a / b)) (a / b + a / b % 2))

-- The pattern that n / den units round to, computed: of the whole part's digits all but w + 1 are dropped, k of them; n / den in multiples of 2 ^ k units goes to the closest whole number; and what has no pattern below `top` is `top`.
-- Adding that number to the field's place of k is right in each case: a leading one counts one up in the field, and so does a carry.
unfoldable pub round_pattern : ℕ → ℕ → ℕ → ℕ → ℕ
round_pattern w top n den =
    let k = count (n / den) (n / den) - suc w in
    min top (k * 2 ^ w + closest n (den * 2 ^ k))
