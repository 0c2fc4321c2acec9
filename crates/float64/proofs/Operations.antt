-- The library's four operations give what crate binary64 defines.
use Rattle.std.proofs.Common.{◌≡◌, ℕ, ◌+◌, ◌-◌, ◌*◌, ◌^◌, ◌<◌, Bool, true, false, cond, not, ◌&&◌, T, eqb, ltb, ℤ, pos, sym, refl, ap, ◌∙◌, subst, le_refl, mul_assoc, mul_comm, add-mul, lt_of_mul-lt-mul_right, mul-lt-mul_of_pos_right, mul-pos, zero-mul, mul-one, mul_right_comm, mul_left_comm, arith, eqb→eq, ltb→lt, lt→ltb, pow_pos}
use native.Mathlib.Nat.{mul-sub, eq_of_mul-eq-mul_right}
use mathlib.Core.Bool.{beq}
use lib.Ieee as Ieee
use lib.Ieee.{Float, nan, inf, fin, binary64, up, down, size, round, to_bits, neg, add, sub, mul, div, of_bits}
use lib.Ieee.Fits.{down_pos, up_pos, eq→eqb}
use Rattle.float64.proofs.Decode.{Means, not_number, endless, number, read}
use Rattle.float64.proofs.Encode.{round_bits, pattern_same, infinite_bits}
use Rattle.binary64.specs.Binary64.{infinity, quiet, with_sign, rounded, exactly, exact_sum, exact_product, exact_quotient, unlike, Value, sum, opposite, product, quotient, sum_bits, difference_bits, product_bits, quotient_bits}

same_test : (a b : Bool) → (T a → T b) → (T b → T a) → a ≡ b
same_test true true p q = refl
same_test true false p q = absurd (p tt)
same_test false true p q = absurd (q tt)
same_test false false p q = refl

abbrev f : Ieee.Format
f = binary64

abbrev L : ℕ
L = 2 ^ 1074

pub nan_bits : to_bits binary64 nan ≡ quiet
unfolding to_bits
nan_bits = refl

zero_bits : (s : Bool) → to_bits binary64 (fin s 0 (pos 0)) ≡ with_sign s 0
unfolding to_bits size
zero_bits true = refl
zero_bits false = refl

cond_bits : (b : Bool) (x y : Float) → to_bits f (cond b x y) ≡ cond b (to_bits f x) (to_bits f y)
cond_bits true x y = refl
cond_bits false x y = refl

-- ---- rounding, from the library's fraction to a fraction of units
rounded_same : (s : Bool) (A C n den : ℕ) → 0 < C → 0 < den → A * L * den ≡ n * C → to_bits f (round f s A C) ≡ rounded (exactly s n den)
rounded_same s A C n den P D e = round_bits s A C P ∙ ap (with_sign s) (pattern_same 52 infinity (A * L) C n den P D e)

-- ---- sums
module _ (A B C u v : ℕ) (P : 0 < C) (a : A * L ≡ u * C) (b : B * L ≡ v * C) where
  pub ltb_same : ltb A B ≡ ltb u v
  ltb_same =
      same_test (ltb A B) (ltb u v)
      (λ t. lt→ltb u v (lt_of_mul-lt-mul_right C (subst (λ (z : ℕ). z < v * C) a (subst (λ (z : ℕ). A * L < z) b (mul-lt-mul_of_pos_right (ltb→lt A B t) (pow_pos 1074))))))
      (λ t. lt→ltb A B (lt_of_mul-lt-mul_right L (subst (λ (z : ℕ). z < B * L) (sym a) (subst (λ (z : ℕ). u * C < z) (sym b) (mul-lt-mul_of_pos_right (ltb→lt u v t) P)))))

  sum_same : (A + B) * L * 1 ≡ (u + v) * C
  sum_same = rw (mul-one, add-mul A B L, add-mul u v C, a, b)

  difference_same : (A - B) * L * 1 ≡ (u - v) * C
  difference_same = rw (mul-one, mul_comm (A - B) L, mul_comm (u - v) C, mul-sub L A B, mul-sub C u v, mul_comm L A, mul_comm L B, mul_comm C u, mul_comm C v, a, b)

sum_bits_lem : (s : Bool) (A : ℕ) (t : Bool) (B C u v : ℕ) → 0 < C → A * L ≡ u * C → B * L ≡ v * C → to_bits f (Ieee.sum f s A t B C) ≡ rounded (exact_sum s u t v)
unfolding Ieee.sum
sum_bits_lem s A t B C u v P a b = rw (ltb_same A B C u v P a b, ltb_same B A C v u P b a) (go (beq s t) (ltb u v) (s && ltb v u))
  where
    go : (k x r : Bool)
        → to_bits f (cond k (round f s (A + B) C) (cond x (round f t (B - A) C) (round f r (A - B) C)))
        ≡ rounded (cond k (exactly s (u + v) 1) (cond x (exactly t (v - u) 1) (exactly r (u - v) 1)))
    go true x r = rounded_same s (A + B) C (u + v) 1 P (le_refl 1) (sum_same A B C u v P a b)
    go false true r = rounded_same t (B - A) C (v - u) 1 P (le_refl 1) (difference_same B A C v u P b a)
    go false false r = rounded_same r (A - B) C (u - v) 1 P (le_refl 1) (difference_same A B C u v P a b)

add_finite : (s : Bool) (m : ℕ) (e : ℤ) (t : Bool) (n : ℕ) (d : ℤ) (u v : ℕ) → m * up e * L ≡ u * down e → n * up d * L ≡ v * down d → to_bits f (add f (fin s m e) (fin t n d)) ≡ rounded (exact_sum s u t v)
unfolding add
add_finite s m e t n d u v a b =
    sum_bits_lem s (m * up e * down d) t (n * up d * down e) (down e * down d) u v (mul-pos (down_pos e) (down_pos d))
    (mul_right_comm (m * up e) (down d) L ∙ ap (λ (z : ℕ). z * down d) a ∙ mul_assoc u (down e) (down d))
    (mul_right_comm (n * up d) (down e) L ∙ ap (λ (z : ℕ). z * down e) b ∙ mul_assoc v (down d) (down e) ∙ ap (λ (z : ℕ). v * z) (mul_comm (down d) (down e)))

sum_means : {p q : Value} {x y : Float} → Means p x → Means q y → to_bits f (add f x y) ≡ sum p q
unfolding add sum
sum_means not_number k = nan_bits
sum_means (endless s) not_number = nan_bits
sum_means (endless s) (endless t) = cond_bits (beq s t) (inf s) nan ∙ rw (infinite_bits s, nan_bits)
sum_means (endless s) (number t v n d b) = infinite_bits s
sum_means (number s u m e a) not_number = nan_bits
sum_means (number s u m e a) (endless t) = infinite_bits t
sum_means (number s u m e a) (number t v n d b) = add_finite s m e t n d u v a b

opposite_means : {q : Value} {y : Float} → Means q y → Means (opposite q) (neg y)
unfolding opposite neg
opposite_means not_number = not_number
opposite_means (endless t) = endless (not t)
opposite_means (number t v n d b) = number (not t) v n d b

-- ---- products
eqb_same : (n v : ℕ) (d : ℤ) → n * up d * L ≡ v * down d → eqb n 0 ≡ eqb v 0
eqb_same n v d b =
    same_test (eqb n 0) (eqb v 0)
    (λ t. eq→eqb (eq_of_mul-eq-mul_right (down d) (down_pos d) v 0 (sym b ∙ ap (λ (z : ℕ). z * up d * L) (eqb→eq n 0 t) ∙ ap (λ (z : ℕ). z * L) (zero-mul (up d)) ∙ zero-mul L ∙ sym (zero-mul (down d)))))
    (λ t. eq→eqb (eq_of_mul-eq-mul_right (up d) (up_pos d) n 0 (eq_of_mul-eq-mul_right L (pow_pos 1074) (n * up d) (0 * up d) (b ∙ ap (λ (z : ℕ). z * down d) (eqb→eq v 0 t) ∙ zero-mul (down d) ∙ sym (ap (λ (z : ℕ). z * L) (zero-mul (up d)) ∙ zero-mul L)))))

nan_or_inf : (n v : ℕ) (d : ℤ) (s : Bool) → n * up d * L ≡ v * down d → to_bits f (cond (eqb n 0) nan (inf s)) ≡ cond (eqb v 0) quiet (with_sign s infinity)
nan_or_inf n v d s b = rw (eqb_same n v d b) (cond_bits (eqb v 0) nan (inf s) ∙ rw (infinite_bits s, nan_bits))

mul_finite : (s : Bool) (m : ℕ) (e : ℤ) (t : Bool) (n : ℕ) (d : ℤ) (u v : ℕ) → m * up e * L ≡ u * down e → n * up d * L ≡ v * down d → to_bits f (mul f (fin s m e) (fin t n d)) ≡ rounded (exact_product s u t v)
unfolding mul
mul_finite s m e t n d u v a b = rounded_same (unlike s t) (m * up e * (n * up d)) (down e * down d) (u * v) L (mul-pos (down_pos e) (down_pos d)) (pow_pos 1074) (cross (m * up e) (n * up d) (down e) (down d) a b)
  where
    cross : (X Y E D : ℕ) → X * L ≡ u * E → Y * L ≡ v * D → X * Y * L * L ≡ u * v * (E * D)
    cross X Y E D a b = regroup X Y L ∙ ap (λ (z : ℕ). z * (Y * L)) a ∙ ap (λ (z : ℕ). u * E * z) b ∙ inter u E v D
      where
        regroup : (X Y l : ℕ) → X * Y * l * l ≡ X * l * (Y * l)
        regroup X Y l = simp (mul_assoc, mul_left_comm)

        inter : (u E v D : ℕ) → u * E * (v * D) ≡ u * v * (E * D)
        inter u E v D = simp (mul_assoc, mul_left_comm)

product_means : {p q : Value} {x y : Float} → Means p x → Means q y → to_bits f (mul f x y) ≡ product p q
unfolding mul product
product_means not_number k = nan_bits
product_means (endless s) not_number = nan_bits
product_means (endless s) (endless t) = infinite_bits (unlike s t)
product_means (endless s) (number t v n d b) = nan_or_inf n v d (unlike s t) b
product_means (number s u m e a) not_number = nan_bits
product_means (number s u m e a) (endless t) = nan_or_inf m u e (unlike s t) a
product_means (number s u m e a) (number t v n d b) = mul_finite s m e t n d u v a b

-- ---- quotients
div_finite : (s : Bool) (m : ℕ) (e : ℤ) (t : Bool) (n : ℕ) (d : ℤ) (u v : ℕ) → m * up e * L ≡ u * down e → n * up d * L ≡ v * down d
    → to_bits f (div f (fin s m e) (fin t n d)) ≡ cond (eqb v 0) (cond (eqb u 0) quiet (with_sign (unlike s t) infinity)) (rounded (exact_quotient s u t v))
unfolding div
div_finite s m e t n d u v a b =
    rw (eqb_same n v d b) (go (eqb v 0) (λ h e. subst (λ (z : ℕ). T (not (eqb z 0))) e h))
  where
    some : (v : ℕ) → (v ≡ 0 → ⊥) → 0 < v
    some v h = omega arith

    n_some : (v ≡ 0 → ⊥) → 0 < n
    n_some h = some n (λ q. h (eqb→eq v 0 (subst T (eqb_same n v d b) (eq→eqb q))))

    cross : (X Y E D : ℕ) → X * L ≡ u * E → Y * L ≡ v * D → X * D * L * v ≡ u * L * (Y * E)
    cross X Y E D a b = left X D L v ∙ ap (λ (z : ℕ). z * (v * D)) a ∙ ap (λ (z : ℕ). u * E * z) (sym b) ∙ right u E Y L
      where
        left : (X D l v : ℕ) → X * D * l * v ≡ X * l * (v * D)
        left X D l v = simp (mul_assoc, mul_comm, mul_left_comm)

        right : (u E Y l : ℕ) → u * E * (Y * l) ≡ u * l * (Y * E)
        right u E Y l = simp (mul_assoc, mul_comm, mul_left_comm)

    go : (z : Bool) → (T (not z) → v ≡ 0 → ⊥) → to_bits f (cond z (cond (eqb m 0) nan (inf (unlike s t))) (round f (unlike s t) (m * up e * down d) (n * up d * down e))) ≡ cond z (cond (eqb u 0) quiet (with_sign (unlike s t) infinity)) (rounded (exact_quotient s u t v))
    go true h = nan_or_inf m u e (unlike s t) a
    go false h = rounded_same (unlike s t) (m * up e * down d) (n * up d * down e) (u * L) v (mul-pos (mul-pos (n_some (h tt)) (up_pos d)) (down_pos e)) (some v (h tt)) (cross (m * up e) (n * up d) (down e) (down d) a b)

quotient_means : {p q : Value} {x y : Float} → Means p x → Means q y → to_bits f (div f x y) ≡ quotient p q
unfolding div quotient
quotient_means not_number k = nan_bits
quotient_means (endless s) not_number = nan_bits
quotient_means (endless s) (endless t) = nan_bits
quotient_means (endless s) (number t v n d b) = infinite_bits (unlike s t)
quotient_means (number s u m e a) not_number = nan_bits
quotient_means (number s u m e a) (endless t) = zero_bits (unlike s t)
quotient_means (number s u m e a) (number t v n d b) = div_finite s m e t n d u v a b

-- ---- the operations on patterns, as the code writes them
module _ (a b : ℕ) {x y : Float} {r : ℕ} (p : x ≡ of_bits f a) (q : y ≡ of_bits f b) where
  pub sum_of : r ≡ to_bits f (add f x y) → r ≡ sum_bits a b
  unfolding sum_bits
  sum_of e = e ∙ sum_means (read a p) (read b q)

  pub difference_of : r ≡ to_bits f (sub f x y) → r ≡ difference_bits a b
  unfolding sub difference_bits
  difference_of e = e ∙ sum_means (read a p) (opposite_means (read b q))

  pub product_of : r ≡ to_bits f (mul f x y) → r ≡ product_bits a b
  unfolding product_bits
  product_of e = e ∙ product_means (read a p) (read b q)

  pub quotient_of : r ≡ to_bits f (div f x y) → r ≡ quotient_bits a b
  unfolding quotient_bits
  quotient_of e = e ∙ quotient_means (read a p) (read b q)
