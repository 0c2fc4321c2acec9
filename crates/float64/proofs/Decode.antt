-- What a pattern stands for by crate binary64 is what the library reads from its bits.
use Rattle.std.proofs.Common.{◌≡◌, ℕ, zero, suc, ◌+◌, ◌*◌, ◌/◌, ◌%◌, ◌^◌, ◌<◌, Bool, true, false, cond, not, T, eqb, ltb, leb, ℤ, sym, refl, ap, ◌∙◌, subst, lt_irrefl, div-lt_iff_lt-mul, mul-one, eqb→eq, nltb→le, pow_pos}
use lib.Dec.{not_T}
use lib.Arith.{lt_of_le-ne}
use lib.Pow.{mod-mod-pow}
use lib.Ieee.{Float, nan, inf, fin, binary64, up, down, odd, of_bits, of_fields, is_nan}
use lib.Ieee.Bits.{nan_bits_is, nan_bits_above, cond_no}
use lib.Ieee.Exact.{HasValue, odd_sign}
use Rattle.binary64.specs.Rounding.{units, field_units}
use Rattle.binary64.specs.Binary64.{infinity, Value, not_a_number, infinite, finite, value}

-- the value p of a pattern is the library's x
pub data Means : Value → Float → Type 0 where
  not_number : Means not_a_number nan
  endless : (s : Bool) → Means (infinite s) (inf s)
  number : (s : Bool) (u m : ℕ) (e : ℤ) → m * up e * 2 ^ 1074 ≡ u * down e → Means (finite s u) (fin s m e)

has_value : (x : Float) (s : Bool) (u : ℕ) → HasValue x s u (2 ^ 1074) → Means (finite s u) x
has_value nan s u h = absurd h
has_value (inf t) s u h = absurd h
has_value (fin t m e) s u h = subst (λ (z : Bool). Means (finite z u) (fin t m e)) h.0 (number t u m e h.1)

only_nan : (x : Float) → is_nan x ≡ true → x ≡ nan
unfolding is_nan
only_nan nan e = refl
only_nan (inf s) e = absurd (subst T (sym e) tt)
only_nan (fin s m d) e = absurd (subst T (sym e) tt)

of_bits_is : (b : ℕ) → of_bits binary64 b ≡ of_fields binary64 (leb (2 ^ 63) b) (b % 2 ^ 63 / 2 ^ 52) (b % 2 ^ 63 % 2 ^ 52)
unfolding of_bits
of_bits_is b = ap (λ (t : ℕ). of_fields binary64 (leb (2 ^ 63) b) (b % 2 ^ 63 / 2 ^ 52) t) (sym (mod-mod-pow b 11 52))

pub is_not_a_number : (b : ℕ) → ltb infinity (b % 2 ^ 63) ≡ true → of_bits binary64 b ≡ nan
is_not_a_number b h = only_nan (of_bits binary64 b) (sym (nan_bits_is binary64 b) ∙ nan_bits_above binary64 b ∙ h)

infinite_fields : (s : Bool) → of_fields binary64 s (infinity / 2 ^ 52) (infinity % 2 ^ 52) ≡ inf s
unfolding of_fields
infinite_fields s = refl

is_infinite : (b : ℕ) → b % 2 ^ 63 ≡ infinity → of_bits binary64 b ≡ inf (leb (2 ^ 63) b)
is_infinite b e = of_bits_is b ∙ ap (λ (m : ℕ). of_fields binary64 (leb (2 ^ 63) b) (m / 2 ^ 52) (m % 2 ^ 52)) e ∙ infinite_fields (leb (2 ^ 63) b)

fields_value : (s : Bool) (x t : ℕ) → x < 2047 → HasValue (of_fields binary64 s x t) s (field_units 52 x t) (2 ^ 1074)
unfolding of_fields
fields_value s zero t h = subst (λ (v : ℕ). HasValue (odd 53 s t 0 1074) s v (2 ^ 1074)) (mul-one t) (odd_sign 53 s t 0 1074)
fields_value s (suc x) t h =
    subst (λ (y : Float). HasValue y s ((2 ^ 52 + t) * 2 ^ x) (2 ^ 1074))
    (sym (cond_no (eqb (suc x) 2047) (cond (eqb t 0) (inf s) nan) (odd 53 s (2 ^ 52 + t) x 1074) (not_T (eqb (suc x) 2047) (λ u. lt_irrefl 2047 (subst (λ (z : ℕ). z < 2047) (eqb→eq (suc x) 2047 u) h)))))
    (odd_sign 53 s (2 ^ 52 + t) x 1074)

is_finite : (b : ℕ) → b % 2 ^ 63 < infinity → HasValue (of_bits binary64 b) (leb (2 ^ 63) b) (units 52 (b % 2 ^ 63)) (2 ^ 1074)
is_finite b h =
    subst (λ (y : Float). HasValue y (leb (2 ^ 63) b) (units 52 (b % 2 ^ 63)) (2 ^ 1074)) (sym (of_bits_is b))
    (fields_value (leb (2 ^ 63) b) (b % 2 ^ 63 / 2 ^ 52) (b % 2 ^ 63 % 2 ^ 52) ((div-lt_iff_lt-mul (pow_pos 52)).1 h))

module _ (b : ℕ) where
  abbrev m : ℕ
  m = b % 2 ^ 63

  abbrev s : Bool
  s = leb (2 ^ 63) b

  by_tests : (x y : Bool) → (x ≡ true → of_bits binary64 b ≡ nan) → (T y → m ≡ infinity) → (T (not x) → T (not y) → HasValue (of_bits binary64 b) s (units 52 m) (2 ^ 1074))
      → Means (cond x not_a_number (cond y (infinite s) (finite s (units 52 m)))) (of_bits binary64 b)
  by_tests true y f g h = rw (f refl) not_number
  by_tests false true f g h = rw (is_infinite b (g tt)) (endless s)
  by_tests false false f g h = has_value (of_bits binary64 b) s (units 52 m) (h tt tt)

  decoded : Means (value b) (of_bits binary64 b)
  unfolding value
  decoded =
      by_tests (ltb infinity m) (eqb m infinity) (is_not_a_number b) (eqb→eq m infinity)
      (λ p q. is_finite b (lt_of_le-ne (nltb→le infinity m p) (λ e. subst (λ (z : ℕ). T (not (eqb z infinity))) e q)))

pub read : (a : ℕ) {x : Float} → x ≡ of_bits binary64 a → Means (value a) x
read a e = rw e (decoded a)
