-- a / b, rounded to the closest whole number, is a nearest one, and at a tie even. Stated of the library's `closest`.
use mathlib.Core.Path.{◌≡◌, refl, sym, ap, ◌∙◌, subst}
use Prim.Native.Nat.{ℕ, zero, suc, ◌+◌, ◌*◌, ◌/◌, ◌%◌, ◌≤◌, ◌<◌, compare, Ordering}
use native.Mathlib.Nat.{le_trans, le_of_eq, mul-le-mul_right, suc-mul, mod-lt, div-add-mod', add-zero}
use native.Mathlib.Numerals.{add-one}
use native.Mathlib.Omega.{arith}
use mathlib.Core.Bool.{not}
use lib.Dec.{T, is_le, compare_is_eq, eqb, leb→le, nleb→lt, eqb→eq, eqb_refl}
use lib.Arith.{lt_of_le-ne}
use lib.Ieee.{nearest}
use lib.Ieee.Nearest.{closest}
use Rattle.binary64.specs.Rounding.{apart}

-- ---- what `compare` says
abbrev pub Cmp : Ordering → ℕ → ℕ → Type 0
Cmp Ordering.lt a b = a < b
Cmp Ordering.eq a b = a ≡ b
Cmp Ordering.gt a b = b < a

pub cmp : (a b : ℕ) → Cmp (compare a b) a b
cmp a b = go (compare a b) (leb→le a b) (nleb→lt a b) (eqb→eq a b) (λ (e : a ≡ b). subst (λ (x : ℕ). T (eqb a x)) e (eqb_refl a))
  where
    go : (o : Ordering) → (T (is_le o) → a ≤ b) → (T (not (is_le o)) → b < a) → (T (compare_is_eq o) → a ≡ b) → (a ≡ b → T (compare_is_eq o)) → Cmp o a b
    go Ordering.lt h k e n = lt_of_le-ne (h tt) n
    go Ordering.eq h k e n = e tt
    go Ordering.gt h k e n = k tt

-- ---- where q * b stands, from where q stands: q below w, at w, at w + 1, above
data Place (w q P X b : ℕ) : Type 0 where
  below : X + b ≤ P → Place w q P X b
  at : q ≡ w → X ≡ P → Place w q P X b
  next : q ≡ suc w → X ≡ P + b → Place w q P X b
  above : P + b + b ≤ X → Place w q P X b

place : (w q b : ℕ) → Place w q (w * b) (q * b) b
place w q b = go (compare q w) (cmp q w) (compare q (suc w)) (cmp q (suc w))
  where
    go : (o : Ordering) → Cmp o q w → (p : Ordering) → Cmp p q (suc w) → Place w q (w * b) (q * b) b
    go Ordering.lt h p k = below (subst (λ (z : ℕ). z ≤ w * b) (suc-mul q b) (mul-le-mul_right b h))
    go Ordering.eq h p k = at h (ap (λ (z : ℕ). z * b) h)
    go Ordering.gt h Ordering.lt k = absurd (omega arith)
    go Ordering.gt h Ordering.eq k = next k (ap (λ (z : ℕ). z * b) k ∙ suc-mul w b)
    go Ordering.gt h Ordering.gt k = above (subst (λ (z : ℕ). z ≤ q * b) (suc-mul (suc w) b ∙ ap (λ (z : ℕ). z + b) (suc-mul w b)) (mul-le-mul_right b k))

-- ---- closest
module _ (w q P X r b : ℕ) (R : r < b) where
  near_lt : r * 2 < b → Place w q P X b → apart P (P + r) ≤ apart X (P + r)
  near_lt h (below g) = omega arith
  near_lt h (at e g) = omega arith
  near_lt h (next e g) = omega arith
  near_lt h (above g) = omega arith

  near_gt : b < r * 2 → Place w q P X b → apart (P + b) (P + r) ≤ apart X (P + r)
  near_gt h (below g) = omega arith
  near_gt h (at e g) = omega arith
  near_gt h (next e g) = omega arith
  near_gt h (above g) = omega arith

  near_eq : r * 2 ≡ b → Place w q P X b → r ≤ apart X (P + r)
  near_eq h (below g) = omega arith
  near_eq h (at e g) = omega arith
  near_eq h (next e g) = omega arith
  near_eq h (above g) = omega arith

  tie_lt : r * 2 < b → Place w q P X b → apart X (P + r) ≡ apart P (P + r) → q ≡ w
  tie_lt h (below g) k = omega arith
  tie_lt h (at e g) k = e
  tie_lt h (next e g) k = omega arith
  tie_lt h (above g) k = omega arith

  tie_gt : b < r * 2 → Place w q P X b → apart X (P + r) ≡ apart (P + b) (P + r) → q ≡ suc w
  tie_gt h (below g) k = omega arith
  tie_gt h (at e g) k = omega arith
  tie_gt h (next e g) k = e
  tie_gt h (above g) k = omega arith

-- w + w % 2 is w or w + 1
tie_value : (w b P r : ℕ) → P ≡ w * b → r * 2 ≡ b → apart ((w + w % 2) * b) (P + r) ≡ r
tie_value w b P r e h = go (w % 2) (omega arith)
  where
    go : (d : ℕ) → d < 2 → apart ((w + d) * b) (P + r) ≡ r
    go zero l = rw (add-zero w, ← e) (omega arith)
    go (suc zero) l = rw (add-one w, suc-mul w b, ← e) (omega arith)
    go (suc (suc d)) l = absurd (omega arith)

module _ (a b q : ℕ) (B : 0 < b) where
  pub closest_near : apart (closest a b * b) a ≤ apart (q * b) a
  closest_near = subst (λ (z : ℕ). apart (closest a b * b) z ≤ apart (q * b) z) (div-add-mod' a b) (go (compare (a % b * 2) b) (cmp (a % b * 2) b))
    where
      go : (o : Ordering) → Cmp o (a % b * 2) b → apart (nearest (a / b) o * b) (a / b * b + a % b) ≤ apart (q * b) (a / b * b + a % b)
      go Ordering.lt h = near_lt (a / b) q (a / b * b) (q * b) (a % b) b (mod-lt a B) h (place (a / b) q b)
      go Ordering.eq h = le_trans (le_of_eq (tie_value (a / b) b (a / b * b) (a % b) refl h)) (near_eq (a / b) q (a / b * b) (q * b) (a % b) b (mod-lt a B) h (place (a / b) q b))
      go Ordering.gt h =
          subst (λ (z : ℕ). apart z (a / b * b + a % b) ≤ apart (q * b) (a / b * b + a % b)) (sym (suc-mul (a / b) b))
          (near_gt (a / b) q (a / b * b) (q * b) (a % b) b (mod-lt a B) h (place (a / b) q b))

  pub closest_tie : (q ≡ closest a b → ⊥) → apart (q * b) a ≡ apart (closest a b * b) a → closest a b % 2 ≡ 0
  closest_tie n k = go (compare (a % b * 2) b) (cmp (a % b * 2) b) n (subst (λ (z : ℕ). apart (q * b) z ≡ apart (closest a b * b) z) (sym (div-add-mod' a b)) k)
    where
      go : (o : Ordering) → Cmp o (a % b * 2) b → (q ≡ nearest (a / b) o → ⊥) → apart (q * b) (a / b * b + a % b) ≡ apart (nearest (a / b) o * b) (a / b * b + a % b) → nearest (a / b) o % 2 ≡ 0
      go Ordering.lt h n k = absurd (n (tie_lt (a / b) q (a / b * b) (q * b) (a % b) b (mod-lt a B) h (place (a / b) q b) k))
      go Ordering.eq h n k = omega arith
      go Ordering.gt h n k =
          absurd (n (tie_gt (a / b) q (a / b * b) (q * b) (a % b) b (mod-lt a B) h (place (a / b) q b)
          (subst (λ (z : ℕ). apart (q * b) (a / b * b + a % b) ≡ apart z (a / b * b + a % b)) (suc-mul (a / b) b) k)))
