-- Patterns are ordered as their units are, so the rounded pattern held to `top` is nearest of those up to `top`, ties to even.
use mathlib.Core.Path.{◌≡◌, sym, ap, ◌∙◌, subst}
use mathlib.Core.Logic.{inl, inr}
use Prim.Native.Nat.{ℕ, zero, suc, ◌+◌, ◌-◌, ◌*◌, ◌/◌, ◌%◌, ◌^◌, ◌≤◌, ◌<◌, min}
use native.Mathlib.Nat.{le_refl, le_of_eq, le_of_lt, lt_trans, lt_of_lt_of_le, eq-or-lt_of_le, mul-le-mul_right, mul-lt-mul_of_pos_right, suc-mul, add-zero, add-suc, mod-lt, div-add-mod', mul-one, mul_assoc, pow-succ'}
use native.Mathlib.Omega.{arith}
use lib.Pow.{pow_pos}
use Rattle.binary64.proofs.Library.{pattern_is}
use Rattle.binary64.proofs.Unbounded.{lt_or_ge, units_at, free, free_near, free_even}
use Rattle.binary64.specs.Rounding.{apart, field_units, units, NearestEven, round_pattern}

-- ---- a larger pattern has more units
field_step : (w x t : ℕ) → suc t < 2 ^ w → field_units w x t < field_units w x (suc t)
field_step w zero t h = le_refl (suc t)
field_step w (suc x) t h = mul-lt-mul_of_pos_right (omega arith) (pow_pos x)

field_carry : (w x t : ℕ) → suc t ≡ 2 ^ w → field_units w x t < field_units w (suc x) 0
field_carry w zero t h = subst (λ (z : ℕ). t < z) (h ∙ sym (add-zero (2 ^ w)) ∙ sym (mul-one (2 ^ w + 0))) (le_refl (suc t))
field_carry w (suc x) t h =
    let few : 2 ^ w + t < 2 ^ w + 2 ^ w = omega arith in
    let double : (2 ^ w + 0) * 2 ≡ 2 ^ w + 2 ^ w = omega arith in
    lt_of_lt_of_le (mul-lt-mul_of_pos_right few (pow_pos x))
    (le_of_eq (ap (λ (z : ℕ). z * 2 ^ x) (sym double) ∙ mul_assoc (2 ^ w + 0) 2 (2 ^ x) ∙ ap (λ (z : ℕ). (2 ^ w + 0) * z) (sym (pow-succ' 2 x))))

units_step : (w q : ℕ) → units w q < units w (suc q)
units_step w q =
    let x = q / 2 ^ w in
    let t = q % 2 ^ w in
    let e : x * 2 ^ w + t ≡ q = div-add-mod' q (2 ^ w) in
    elim (eq-or-lt_of_le (mod-lt q (pow_pos w))) [
      | inl c ↦ subst (λ (z : ℕ). units w q < z) (sym (ap (units w) (ap suc (sym e) ∙ sym (add-suc (x * 2 ^ w) t) ∙ ap (λ (z : ℕ). x * 2 ^ w + z) c ∙ sym (suc-mul x (2 ^ w)) ∙ sym (add-zero (suc x * 2 ^ w))) ∙ units_at w (suc x) 0 (pow_pos w))) (field_carry w x t c)
      | inr l ↦ subst (λ (z : ℕ). units w q < z) (sym (ap (units w) (ap suc (sym e) ∙ sym (add-suc (x * 2 ^ w) t)) ∙ units_at w x (suc t) l)) (field_step w x t l)
    ]

units_far : (w q d : ℕ) → units w q < units w (q + suc d)
units_far w q zero = subst (λ (z : ℕ). units w q < units w z) (sym (add-suc q 0 ∙ ap suc (add-zero q))) (units_step w q)
units_far w q (suc d) = lt_trans (units_far w q d) (subst (λ (z : ℕ). units w (q + suc d) < units w z) (sym (add-suc q (suc d))) (units_step w (q + suc d)))

pub units_lt : (w p q : ℕ) → p < q → units w p < units w q
units_lt w p q h =
    let gap : p + suc (q - suc p) ≡ q = omega arith in
    subst (λ (z : ℕ). units w p < units w z) gap (units_far w p (q - suc p))

pub units_le : (w p q : ℕ) → p ≤ q → units w p ≤ units w q
units_le w p q h = elim (eq-or-lt_of_le h) [ inl e ↦ le_of_eq (ap (units w) e) | inr l ↦ le_of_lt (units_lt w p q l) ]

-- ---- held to top
pub min_left : (a b : ℕ) → a ≤ b → min a b ≡ a
min_left a b h = omega arith

pub min_right : (a b : ℕ) → b ≤ a → min a b ≡ b
min_right a b h = omega arith

module _ (w top n den : ℕ) (W : 0 < w) (D : 0 < den) where
  abbrev F : ℕ
  F = free w n den D

  as_is : F ≤ top → NearestEven w top n den F
  as_is h = record { within = h; near = λ q _. free_near w n den D q; even = λ q _ ne k. free_even w n den D W q ne k }

  reaches : (t f N : ℕ) → apart f N ≤ apart t N → t < f → t ≤ N
  reaches t f N h l = omega arith

  -- the fraction is at least that of top
  under_top : top < F → units w top * den ≤ n
  under_top h = reaches (units w top * den) (units w F * den) n (free_near w n den D top) (mul-lt-mul_of_pos_right (units_lt w top F h) D)

  at_top : top < F → NearestEven w top n den top
  at_top h = record {
    within = le_refl top;
    near = λ q l. closer (units w q * den) (units w top * den) n (mul-le-mul_right den (units_le w q top l)) (under_top h);
    even = λ q l ne k. absurd (differ q l ne (apart (units w q * den) n) k);
  }
    where
      closer : (v t N : ℕ) → v ≤ t → t ≤ N → apart t N ≤ apart v N
      closer v t N a b = omega arith

      further : (v t N : ℕ) → v < t → t ≤ N → apart v N ≡ apart t N → ⊥
      further v t N a b c = omega arith

      differ : (q : ℕ) → q ≤ top → (units w q ≡ units w top → ⊥) → (d : ℕ) → apart (units w q * den) n ≡ apart (units w top * den) n → ⊥
      differ q l ne d k = elim (eq-or-lt_of_le (units_le w q top l)) [ inl e ↦ ne e | inr s ↦ further (units w q * den) (units w top * den) n (mul-lt-mul_of_pos_right s D) (under_top h) k ]

  pub round_nearest : NearestEven w top n den (round_pattern w top n den)
  round_nearest = subst (λ (p : ℕ). NearestEven w top n den p) (sym (pattern_is w top n den)) (elim (lt_or_ge top F) [
    | inl h ↦ subst (λ (p : ℕ). NearestEven w top n den p) (sym (min_left top F (le_of_lt h))) (at_top h)
    | inr h ↦ subst (λ (p : ℕ). NearestEven w top n den p) (sym (min_right top F h)) (as_is h)
  ])
