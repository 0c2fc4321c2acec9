-- Only one pattern is nearest with ties to even; and it is the one above the largest finite one exactly from halfway between the two.
use mathlib.Core.Path.{◌≡◌, sym, ap, ◌∙◌, subst}
use mathlib.Core.Logic.{inl, inr}
use Prim.Native.Nat.{ℕ, suc, ◌+◌, ◌*◌, ◌%◌, ◌≤◌, ◌<◌}
use native.Mathlib.Nat.{le_refl, le_trans, le_of_eq, le_of_lt, le_antisymm, le-suc, lt_irrefl, lt_of_le_of_lt, le_of_suc-le-suc, eq-or-lt_of_le, mul-lt-mul_of_pos_right}
use native.Mathlib.Omega.{arith}
use Rattle.binary64.proofs.Unbounded.{lt_or_ge}
use Rattle.binary64.proofs.Bounded.{units_lt}
use Rattle.binary64.specs.Rounding.{apart, units, NearestEven}

module _ (w top n den : ℕ) (D : 0 < den) where
  unequal : (p q : ℕ) → p < q → NearestEven w top n den p → NearestEven w top n den q → ⊥
  unequal p q h P Q =
      let A = units w p * den in
      let B = units w q * den in
      let s : units w p < units w q = units_lt w p q h in
      let same : apart A n ≡ apart B n = le_antisymm (P.near q Q.within) (Q.near p P.within) in
      let ep : p % 2 ≡ 0 = P.even q Q.within (λ e. lt_irrefl (units w q) (subst (λ (z : ℕ). z < units w q) (sym e) s)) (sym same) in
      let eq : q % 2 ≡ 0 = Q.even p P.within (λ e. lt_irrefl (units w q) (subst (λ (z : ℕ). z < units w q) e s)) same in
      let gap : suc p < q = omega arith in
      between A (units w (suc p) * den) B n
      (mul-lt-mul_of_pos_right (units_lt w p (suc p) (le_refl (suc p))) D)
      (mul-lt-mul_of_pos_right (units_lt w (suc p) q gap) D)
      same (P.near (suc p) (le_trans (le_of_lt gap) Q.within))
    where
      between : (A M B N : ℕ) → A < M → M < B → apart A N ≡ apart B N → apart A N ≤ apart M N → ⊥
      between A M B N a b e h = omega arith

  pub unique : (p q : ℕ) → NearestEven w top n den p → NearestEven w top n den q → p ≡ q
  unique p q P Q = elim (lt_or_ge p q) [
    | inl h ↦ absurd (unequal p q h P Q)
    | inr g ↦ elim (eq-or-lt_of_le g) [ inl e ↦ sym e | inr l ↦ absurd (unequal q p l Q P) ]
  ]

-- where the largest finite pattern, t, is odd
module _ (w t n den : ℕ) (odd : t % 2 ≡ 1) (D : 0 < den) (p : ℕ) (P : NearestEven w (suc t) n den p) where
  step : units w t * den < units w (suc t) * den
  step = mul-lt-mul_of_pos_right (units_lt w t (suc t) (le_refl (suc t))) D

  pub over : p ≡ suc t → units w t * den + units w (suc t) * den ≤ 2 * n
  over e = lin (units w t * den) (units w (suc t) * den) n step (subst (λ (z : ℕ). apart (units w z * den) n ≤ apart (units w t * den) n) e (P.near t (le-suc t)))
    where
      lin : (A B N : ℕ) → A < B → apart B N ≤ apart A N → A + B ≤ 2 * N
      lin A B N s h = omega arith

  under : p ≤ t → units w t * den + units w (suc t) * den ≤ 2 * n → ⊥
  under l h = elim (eq-or-lt_of_le l) [ inl e ↦ at e | inr s ↦ below (units w p * den) (units w t * den) (units w (suc t) * den) n (mul-lt-mul_of_pos_right (units_lt w p t s) D) step h (P.near (suc t) (le_refl (suc t))) ]
    where
      below : (A M B N : ℕ) → A < M → M < B → M + B ≤ 2 * N → apart A N ≤ apart B N → ⊥
      below A M B N a b h k = omega arith

      level : (M B N : ℕ) → M < B → M + B ≤ 2 * N → apart M N ≤ apart B N → apart B N ≡ apart M N
      level M B N b h k = omega arith

      at : p ≡ t → ⊥
      at e =
          let near : apart (units w t * den) n ≤ apart (units w (suc t) * den) n = subst (λ (z : ℕ). apart (units w z * den) n ≤ apart (units w (suc t) * den) n) e (P.near (suc t) (le_refl (suc t))) in
          let eq : apart (units w (suc t) * den) n ≡ apart (units w p * den) n = level (units w t * den) (units w (suc t) * den) n step h near ∙ ap (λ (z : ℕ). apart (units w z * den) n) (sym e) in
          let both : t % 2 ≡ 0 = subst (λ (z : ℕ). z % 2 ≡ 0) e (P.even (suc t) (le_refl (suc t)) (λ q. lt_irrefl (units w (suc t)) (lt_of_le_of_lt (le_of_eq (q ∙ ap (units w) e)) (units_lt w t (suc t) (le_refl (suc t))))) eq) in
          omega arith

  pub reaches : units w t * den + units w (suc t) * den ≤ 2 * n → p ≡ suc t
  reaches h = elim (eq-or-lt_of_le P.within) [ inl e ↦ e | inr l ↦ absurd (under (le_of_suc-le-suc l) h) ]
