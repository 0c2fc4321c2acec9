-- The rounded pattern before it is held to `top` is nearest of all patterns, ties to even.
use mathlib.Core.Path.{◌≡◌, refl, sym, ap, ◌∙◌, subst}
use mathlib.Core.Logic.{◌⊎◌, inl, inr}
use Prim.Native.Nat.{ℕ, zero, suc, ◌+◌, ◌-◌, ◌*◌, ◌/◌, ◌%◌, ◌^◌, ◌≤◌, ◌<◌, compare}
use native.Mathlib.Nat.{le_refl, le_trans, le_of_eq, le_of_lt, lt_irrefl, lt_of_lt_of_le, not-le_of_lt, eq-or-lt_of_le, mul-lt-mul_of_pos_right, suc-mul, mod-lt, mul-one, mul_assoc, mul_comm, mul_left_comm, mul-pos, add-sub_of_le, pow-succ', two-pow-succ, le-div_iff_mul-le, div-div-eq-div-mul}
use native.Mathlib.Omega.{arith}
use mathlib.Core.Bool.{Bool, true, false, not}
use lib.Dec.{T, ltb, ltb→lt, nltb→le}
use lib.Arith.{digits_div, digits_mod}
use lib.Pow.{pow-add, pow_pos, pow_mono}
use lib.Ieee.{size}
use lib.Ieee.Digits.{size_reaches, back}
use lib.Ieee.Fits.{kept-lt, nearest-le}
use lib.Ieee.Nearest.{closest, nearest-ge}
use Rattle.binary64.proofs.Closest.{closest_near, closest_tie}
use Rattle.binary64.specs.Rounding.{apart, field_units, units}

pub lt_or_ge : (a b : ℕ) → (a < b) ⊎ (b ≤ a)
lt_or_ge a b = go (ltb a b) (ltb→lt a b) (nltb→le a b)
  where
    go : (t : Bool) → (T t → a < b) → (T (not t) → b ≤ a) → (a < b) ⊎ (b ≤ a)
    go true h k = inl (h tt)
    go false h k = inr (k tt)

-- ---- a pattern's units are j * 2 ^ i with j of at most w + 1 digits
data Form (w v : ℕ) : Type 0 where
  form : (i j : ℕ) → j < 2 ^ suc w → v ≡ j * 2 ^ i → Form w v

more_digit : (w t : ℕ) → t < 2 ^ w → t < 2 ^ suc w
more_digit w t h = rw two-pow-succ (omega arith)

lead_digit : (w t : ℕ) → t < 2 ^ w → 2 ^ w + t < 2 ^ suc w
lead_digit w t h = rw two-pow-succ (omega arith)

form_of : (w q : ℕ) → Form w (units w q)
form_of w q = go (q / 2 ^ w) (q % 2 ^ w) (mod-lt q (pow_pos w))
  where
    go : (x t : ℕ) → t < 2 ^ w → Form w (field_units w x t)
    go zero t h = form 0 t (more_digit w t h) (sym (mul-one t))
    go (suc x) t h = form x (2 ^ w + t) (lead_digit w t h) refl

-- ---- a pattern that is written as a field and digits
pub units_at : (w x t : ℕ) → t < 2 ^ w → units w (x * 2 ^ w + t) ≡ field_units w x t
units_at w x t h = ap (λ (z : ℕ). field_units w z ((x * 2 ^ w + t) % 2 ^ w)) (digits_div x h) ∙ ap (λ (z : ℕ). field_units w x z) (digits_mod x h)

-- k in the field's place, and j with its leading digit
normal : (w k j : ℕ) → 2 ^ w ≤ j → j < 2 ^ suc w → units w (k * 2 ^ w + j) ≡ j * 2 ^ k
normal w k j L H =
    let t = j - 2 ^ w in
    let e : 2 ^ w + t ≡ j = add-sub_of_le L in
    let few : t < 2 ^ w = omega (arith, two-pow-succ w) in
    let split : k * 2 ^ w + j ≡ suc k * 2 ^ w + t = omega (arith, suc-mul k (2 ^ w)) in
    ap (units w) split ∙ units_at w (suc k) t few ∙ ap (λ (z : ℕ). z * 2 ^ k) e

pub carried : (w k c : ℕ) → c ≤ 2 ^ suc w → (0 < k → 2 ^ w ≤ c) → units w (k * 2 ^ w + c) ≡ c * 2 ^ k
carried w k c C L = top_or (eq-or-lt_of_le C)
  where
    low_case : (k : ℕ) → (0 < k → 2 ^ w ≤ c) → c < 2 ^ w → units w (k * 2 ^ w + c) ≡ c * 2 ^ k
    low_case zero L h = units_at w 0 c h ∙ sym (mul-one c)
    low_case (suc k) L h = absurd (not-le_of_lt h (L (omega arith)))

    under : 2 ^ w < 2 ^ suc w
    under = omega (arith, two-pow-succ w, pow_pos w)

    join : k * 2 ^ w + (2 ^ w + 2 ^ w) ≡ suc k * 2 ^ w + 2 ^ w
    join = omega (arith, suc-mul k (2 ^ w))

    top_or : (c ≡ 2 ^ suc w) ⊎ (c < 2 ^ suc w) → units w (k * 2 ^ w + c) ≡ c * 2 ^ k
    top_or (inl e) =
        ap (λ (z : ℕ). units w (k * 2 ^ w + z)) (e ∙ two-pow-succ w)
        ∙ ap (units w) join
        ∙ normal w (suc k) (2 ^ w) (le_refl (2 ^ w)) under
        ∙ ap (λ (z : ℕ). 2 ^ w * z) (pow-succ' 2 k)
        ∙ mul_left_comm (2 ^ w) 2 (2 ^ k)
        ∙ sym (mul_assoc 2 (2 ^ w) (2 ^ k))
        ∙ ap (λ (z : ℕ). z * 2 ^ k) (sym (e ∙ pow-succ' 2 w))
    top_or (inr h) = elim (lt_or_ge c (2 ^ w)) [ inl s ↦ low_case k L s | inr g ↦ normal w k c g h ]

-- ---- the rounded pattern, before it is held to `top`
module _ (w n den : ℕ) (D : 0 < den) where
  abbrev pub dropped : ℕ
  dropped = size (n / den) - suc w

  abbrev pub unit : ℕ
  unit = den * 2 ^ dropped

  abbrev pub free : ℕ
  free = dropped * 2 ^ w + closest n unit

  unit_pos : 0 < unit
  unit_pos = mul-pos D (pow_pos dropped)

  pub kept_le : closest n unit ≤ 2 ^ suc w
  kept_le = le_trans (nearest-le (n / unit) (compare (n % unit * 2) unit)) (subst (λ (x : ℕ). x < 2 ^ suc w) (div-div-eq-div-mul n den (2 ^ dropped)) (kept-lt (suc w) (n / den)))

  -- where digits are dropped, the whole part has all the digits that are kept
  whole_ge : 0 < dropped → 2 ^ w * 2 ^ dropped ≤ n / den
  whole_ge K = le_trans (le_of_eq (sym (pow-add 2 w dropped))) (size_reaches (n / den) (w + dropped) (omega arith))

  pub kept_ge : 0 < dropped → 2 ^ w ≤ closest n unit
  kept_ge K = le_trans (subst (λ (x : ℕ). 2 ^ w ≤ x) (div-div-eq-div-mul n den (2 ^ dropped)) ((le-div_iff_mul-le (pow_pos dropped)).1 (whole_ge K))) (nearest-ge (n / unit) (compare (n % unit * 2) unit))

  free_units : units w free ≡ closest n unit * 2 ^ dropped
  free_units = carried w dropped (closest n unit) kept_le kept_ge

  by_unit : (m : ℕ) → m * 2 ^ dropped * den ≡ m * unit
  by_unit m = mul_assoc m (2 ^ dropped) den ∙ ap (λ (z : ℕ). m * z) (mul_comm (2 ^ dropped) den)

  free_value : units w free * den ≡ closest n unit * unit
  free_value = ap (λ (z : ℕ). z * den) free_units ∙ by_unit (closest n unit)

  -- a value is a multiple of 2 ^ dropped, or it is below one that is no more than the fraction
  data Spot (v : ℕ) : Type 0 where
    multiple : (m : ℕ) → v ≡ m * 2 ^ dropped → Spot v
    lower : v * den < 2 ^ w * unit → 2 ^ w * unit ≤ n → Spot v

  spot : (v : ℕ) → Form w v → Spot v
  spot v (form i j J e) = elim (lt_or_ge i dropped) [ inl l ↦ lower (low l) (high l) | inr g ↦ multiple (j * 2 ^ (i - dropped)) (multi g) ]
    where
      multi : dropped ≤ i → v ≡ j * 2 ^ (i - dropped) * 2 ^ dropped
      multi g = e ∙ ap (λ (z : ℕ). j * z) (ap (λ (z : ℕ). 2 ^ z) (sym (back i dropped g)) ∙ pow-add 2 (i - dropped) dropped) ∙ sym (mul_assoc j (2 ^ (i - dropped)) (2 ^ dropped))

      small : i < dropped → v < 2 ^ w * 2 ^ dropped
      small l =
          subst (λ (z : ℕ). z < 2 ^ w * 2 ^ dropped) (sym e)
          (lt_of_lt_of_le (mul-lt-mul_of_pos_right J (pow_pos i))
          (le_trans (le_of_eq (sym (pow-add 2 (suc w) i))) (le_trans (pow_mono (omega arith)) (le_of_eq (pow-add 2 w dropped)))))

      low : i < dropped → v * den < 2 ^ w * unit
      low l = lt_of_lt_of_le (mul-lt-mul_of_pos_right (small l) D) (le_of_eq (by_unit (2 ^ w)))

      high : i < dropped → 2 ^ w * unit ≤ n
      high l = le_trans (le_of_eq (sym (by_unit (2 ^ w)))) ((le-div_iff_mul-le D).0 (whole_ge (omega arith)))

  strict : (A M X N : ℕ) → apart A N ≤ apart M N → X < M → M ≤ N → apart A N < apart X N
  strict A M X N h l g = omega arith

  spot_near : (v : ℕ) → Spot v → apart (closest n unit * unit) n ≤ apart (v * den) n
  spot_near v (multiple m e) = subst (λ (z : ℕ). apart (closest n unit * unit) n ≤ apart z n) (sym (ap (λ (z : ℕ). z * den) e ∙ by_unit m)) (closest_near n unit m unit_pos)
  spot_near v (lower l g) = le_of_lt (strict (closest n unit * unit) (2 ^ w * unit) (v * den) n (closest_near n unit (2 ^ w) unit_pos) l g)

  spot_even : (v : ℕ) → Spot v → (v ≡ closest n unit * 2 ^ dropped → ⊥) → apart (v * den) n ≡ apart (closest n unit * unit) n → closest n unit % 2 ≡ 0
  spot_even v (multiple m e) ne k =
      closest_tie n unit m unit_pos (λ (q : m ≡ closest n unit). ne (e ∙ ap (λ (z : ℕ). z * 2 ^ dropped) q))
      (subst (λ (z : ℕ). apart z n ≡ apart (closest n unit * unit) n) (ap (λ (z : ℕ). z * den) e ∙ by_unit m) k)
  spot_even v (lower l g) ne k = absurd (lt_irrefl _ (subst (λ (z : ℕ). apart (closest n unit * unit) n < z) k (strict (closest n unit * unit) (2 ^ w * unit) (v * den) n (closest_near n unit (2 ^ w) unit_pos) l g)))

  pub free_near : (q : ℕ) → apart (units w free * den) n ≤ apart (units w q * den) n
  free_near q = subst (λ (z : ℕ). apart z n ≤ apart (units w q * den) n) (sym free_value) (spot_near (units w q) (spot (units w q) (form_of w q)))

  kept_even : (q : ℕ) → (units w q ≡ units w free → ⊥) → apart (units w q * den) n ≡ apart (units w free * den) n → closest n unit % 2 ≡ 0
  kept_even q ne k =
      spot_even (units w q) (spot (units w q) (form_of w q)) (λ (e : units w q ≡ closest n unit * 2 ^ dropped). ne (e ∙ sym free_units))
      (subst (λ (z : ℕ). apart (units w q * den) n ≡ apart z n) free_value k)

  pub free_even : 0 < w → (q : ℕ) → (units w q ≡ units w free → ⊥) → apart (units w q * den) n ≡ apart (units w free * den) n → free % 2 ≡ 0
  free_even W q ne k = parity w dropped (closest n unit) W (kept_even q ne k)
    where
      parity : (w k c : ℕ) → 0 < w → c % 2 ≡ 0 → (k * 2 ^ w + c) % 2 ≡ 0
      parity zero k c W h = absurd (lt_irrefl 0 W)
      parity (suc w) k c W h =
          let e : k * 2 ^ suc w ≡ 2 * (k * 2 ^ w) = ap (λ (z : ℕ). k * z) (pow-succ' 2 w) ∙ mul_left_comm k 2 (2 ^ w) in
          omega arith
