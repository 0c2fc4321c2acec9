-- The bits that the library writes for a rounded fraction are `rounded` of crate binary64; equal fractions round alike.
use Rattle.std.proofs.Common.{◌≡◌, ℕ, zero, suc, ◌+◌, ◌-◌, ◌*◌, ◌/◌, ◌^◌, ◌<◌, ◌≤◌, min, Bool, true, false, cond, not, T, ltb, sym, refl, ap, ◌∙◌, subst, inl, inr, zero-le, le_trans, le_of_eq, le_refl, lt_of_lt_of_le, le_of_lt, add_assoc, mul-le-mul_right, mul_assoc, suc-mul, le_antisymm, eq-or-lt_of_le, mul-pos, lt_of_not-le, not-le_of_lt, mul-div_cancel, arith, ltb→lt, nltb→le, pow_pos, pow_mono, pow-add, shl_lt}
use native.Mathlib.Nat.{two-pow-succ}
use lib.Pow.{pow-lt, shl-shr}
use lib.Ieee as Ieee
use lib.Ieee.{Float, nan, inf, fin, binary64, down, size, odd, round, to_bits}
use lib.Ieee.Digits.{size-lt, size-le}
use lib.Ieee.Fits.{down_pos, round_is}
use lib.Ieee.Exact.{HasValue, odd_sign}
use lib.Ieee.Nearest.{closest, closest_same, div_same}
use Rattle.binary64.proofs.Library.{pattern_is}
use Rattle.binary64.proofs.Unbounded.{lt_or_ge, carried, dropped, unit, kept_le, kept_ge}
use Rattle.binary64.proofs.Bounded.{units_le, units_lt, min_left, min_right}
use Rattle.binary64.specs.Rounding.{units, round_pattern}
use Rattle.binary64.specs.Binary64.{infinity, with_sign, exactly, rounded}

-- ---- v's digits as `to_bits` writes them, for v = q * 2 ^ k
size_gt : (n j : ℕ) → 2 ^ j ≤ n → j < size n
size_gt n j h = lt_of_not-le (λ (g : size n ≤ j). not-le_of_lt (lt_of_lt_of_le (size-lt n) (pow_mono g)) h)

packed : (w q k : ℕ) → q ≤ 2 ^ suc w → (0 < k → 2 ^ w ≤ q) → (size (q * 2 ^ k) - suc w) * 2 ^ w + q * 2 ^ k / 2 ^ (size (q * 2 ^ k) - suc w) ≡ k * 2 ^ w + q
packed w q k C L = elim (eq-or-lt_of_le C) [ inl e ↦ at_top e | inr h ↦ under h ]
  where
    lower : (k : ℕ) → (0 < k → 2 ^ w ≤ q) → k ≤ size (q * 2 ^ k) - suc w
    lower zero L = zero-le
    lower (suc k) L =
        let g : w + suc k < size (q * 2 ^ suc k) = size_gt (q * 2 ^ suc k) (w + suc k) (le_trans (le_of_eq (pow-add 2 w (suc k))) (mul-le-mul_right (2 ^ suc k) (L (omega arith)))) in
        omega arith

    under : q < 2 ^ suc w → (size (q * 2 ^ k) - suc w) * 2 ^ w + q * 2 ^ k / 2 ^ (size (q * 2 ^ k) - suc w) ≡ k * 2 ^ w + q
    under h =
        let upper : size (q * 2 ^ k) - suc w ≤ k = omega (arith, size-le (q * 2 ^ k) (suc w + k) (shl_lt (suc w) k h)) in
        subst (λ (j : ℕ). j * 2 ^ w + q * 2 ^ k / 2 ^ j ≡ k * 2 ^ w + q) (sym (le_antisymm upper (lower k L)))
        (ap (λ (z : ℕ). k * 2 ^ w + z) (shl-shr q k))

    whole : q ≡ 2 ^ suc w → q * 2 ^ k ≡ 2 ^ (suc w + k)
    whole e = ap (λ (z : ℕ). z * 2 ^ k) e ∙ sym (pow-add 2 (suc w) k)

    halves : q ≡ 2 ^ suc w → q * 2 ^ k ≡ 2 ^ w * 2 ^ suc k
    halves e =
        let same : suc w + k ≡ w + suc k = omega arith in
        whole e ∙ ap (λ (z : ℕ). 2 ^ z) same ∙ pow-add 2 w (suc k)

    at_top : q ≡ 2 ^ suc w → (size (q * 2 ^ k) - suc w) * 2 ^ w + q * 2 ^ k / 2 ^ (size (q * 2 ^ k) - suc w) ≡ k * 2 ^ w + q
    at_top e =
        let few : size (q * 2 ^ k) ≤ suc (suc w + k) = size-le (q * 2 ^ k) (suc (suc w + k)) (subst (λ (z : ℕ). z < 2 ^ suc (suc w + k)) (sym (whole e)) (pow-lt (le_refl (suc (suc w + k))))) in
        let many : suc w + k < size (q * 2 ^ k) = size_gt (q * 2 ^ k) (suc w + k) (le_of_eq (sym (whole e))) in
        let drop : size (q * 2 ^ k) - suc w ≡ suc k = omega arith in
        let join : suc k * 2 ^ w + 2 ^ w ≡ k * 2 ^ w + q = omega (arith, suc-mul k (2 ^ w), two-pow-succ w) in
        subst (λ (j : ℕ). j * 2 ^ w + q * 2 ^ k / 2 ^ j ≡ k * 2 ^ w + q) (sym drop)
        (ap (λ (z : ℕ). suc k * 2 ^ w + z) (ap (λ (z : ℕ). z / 2 ^ suc k) (halves e) ∙ shl-shr (2 ^ w) (suc k)) ∙ join)

-- ---- the pattern of a value
abbrev bits_of : ℕ → ℕ
bits_of v = (size v - 53) * 2 ^ 52 + v / 2 ^ (size v - 53)

value_bits : (x : Float) (s : Bool) (v : ℕ) → HasValue x s v (2 ^ 1074) → to_bits binary64 x ≡ with_sign s (bits_of v)
unfolding to_bits
value_bits nan s v h = absurd h
value_bits (inf t) s v h = absurd h
value_bits (fin t m e) s v h =
    ap (λ (n : ℕ). cond t (2 ^ 63) 0 + (size n - 53) * 2 ^ 52 + n / 2 ^ (size n - 53)) (ap (λ (z : ℕ). z / down e) h.1 ∙ mul-div_cancel v (down_pos e))
    ∙ ap (λ (z : Bool). cond z (2 ^ 63) 0 + (size v - 53) * 2 ^ 52 + v / 2 ^ (size v - 53)) h.0
    ∙ add_assoc (cond s (2 ^ 63) 0) ((size v - 53) * 2 ^ 52) (v / 2 ^ (size v - 53))

pub infinite_bits : (s : Bool) → to_bits binary64 (inf s) ≡ with_sign s infinity
unfolding to_bits
infinite_bits true = refl
infinite_bits false = refl

infinite_units : units 52 infinity ≡ 2 ^ 2098
infinite_units = refl

units_bits : (s : Bool) (q k : ℕ) → q ≤ 2 ^ 53 → (0 < k → 2 ^ 52 ≤ q) → to_bits binary64 (Ieee.units binary64 s q k) ≡ with_sign s (min infinity (k * 2 ^ 52 + q))
unfolding Ieee.units
units_bits s q k C L = go (ltb (q * 2 ^ k) (2 ^ 2098)) (ltb→lt (q * 2 ^ k) (2 ^ 2098)) (nltb→le (q * 2 ^ k) (2 ^ 2098))
  where
    pu : units 52 (k * 2 ^ 52 + q) ≡ q * 2 ^ k
    pu = carried 52 k q C L

    few : q * 2 ^ k < 2 ^ 2098 → (k * 2 ^ 52 + q) ≤ infinity
    few h = elim (lt_or_ge infinity (k * 2 ^ 52 + q)) [ inl l ↦ absurd (not-le_of_lt h (le_trans (le_of_eq (sym infinite_units)) (le_trans (units_le 52 infinity (k * 2 ^ 52 + q) (le_of_lt l)) (le_of_eq pu)))) | inr g ↦ g ]

    many : 2 ^ 2098 ≤ q * 2 ^ k → infinity ≤ (k * 2 ^ 52 + q)
    many h = elim (lt_or_ge (k * 2 ^ 52 + q) infinity) [ inl l ↦ absurd (not-le_of_lt (lt_of_lt_of_le (units_lt 52 (k * 2 ^ 52 + q) infinity l) (le_of_eq infinite_units)) (le_trans h (le_of_eq (sym pu)))) | inr g ↦ g ]

    go : (b : Bool) → (T b → q * 2 ^ k < 2 ^ 2098) → (T (not b) → 2 ^ 2098 ≤ q * 2 ^ k) → to_bits binary64 (cond b (odd 54 s q k 1074) (inf s)) ≡ with_sign s (min infinity (k * 2 ^ 52 + q))
    go true h g =
        value_bits (odd 54 s q k 1074) s (q * 2 ^ k) (odd_sign 54 s q k 1074)
        ∙ ap (with_sign s) (packed 52 q k C L ∙ sym (min_right infinity (k * 2 ^ 52 + q) (few (h tt))))
    go false h g = infinite_bits s ∙ ap (with_sign s) (sym (min_left infinity (k * 2 ^ 52 + q) (many (g tt))))

pub round_bits : (s : Bool) (num den : ℕ) → 0 < den → to_bits binary64 (round binary64 s num den) ≡ rounded (exactly s (num * 2 ^ 1074) den)
round_bits s num den D =
    let n = num * 2 ^ 1074 in
    ap (to_bits binary64) (round_is binary64 s num den)
    ∙ units_bits s (closest n (unit 52 n den D)) (dropped 52 n den D) (kept_le 52 n den D) (kept_ge 52 n den D)
    ∙ ap (with_sign s) (sym (pattern_is 52 infinity n den))

-- ---- equal fractions round alike
pub pattern_same : (w top a b c d : ℕ) → 0 < b → 0 < d → a * d ≡ c * b → round_pattern w top a b ≡ round_pattern w top c d
pattern_same w top a b c d B D e =
    let j = size (c / d) - suc w in
    let k : size (a / b) - suc w ≡ j = ap (λ (z : ℕ). size z - suc w) (div_same a b c d B D e) in
    let y : a * (d * 2 ^ j) ≡ c * (b * 2 ^ j) = sym (mul_assoc a d (2 ^ j)) ∙ ap (λ (z : ℕ). z * 2 ^ j) e ∙ mul_assoc c b (2 ^ j) in
    pattern_is w top a b
    ∙ ap (λ (z : ℕ). min top (z * 2 ^ w + closest a (b * 2 ^ z))) k
    ∙ ap (λ (z : ℕ). min top (j * 2 ^ w + z)) (closest_same a (b * 2 ^ j) c (d * 2 ^ j) (mul-pos B (pow_pos j)) (mul-pos D (pow_pos j)) y)
    ∙ sym (pattern_is w top c d)
