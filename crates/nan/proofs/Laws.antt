-- Signed numbers as the code computes with them, and the values of cells.
-- Assumes nothing.
use Rattle.std.proofs.Common.{◌≡◌, ℕ, zero, suc, ◌+◌, ◌%◌, ◌^◌, ◌<◌, ◌≤◌, Bool, true, false, cond, ℤ, pos, negsuc, ◌-ℤ◌, neg_ℤ, nat_abs, refl, ap, arith, w64, SFits, to_z, of_z, ltb, ltb-true, sym, ◌∙◌, ◌*◌, ◌-◌}
use lib.IntN.{+ℤ_idl}
use lib.Signed.{mag, lt_z}
use mir.ValLaws.{to_z-of_z, of_z-to_z}
use Rattle.nan.specs.Cells.{negative, value, modulo64, signed, as_u64, boxed}

-- a signed local is read back from its bits
abbrev pub kept : ℤ → ℤ
kept z = to_z w64 (of_z w64 z)

pub kept_is : (z : ℤ) → mag z < 2 ^ 63 → kept z ≡ z
kept_is z h = to_z-of_z w64 z (record { sfits = h })

-- the code's operation on x and y fits, and gives z
pub record Exact (op : ℤ → ℤ → ℤ) (x y z : ℤ) : Type 0 where
  pub fits : SFits w64 (op x y)
  pub is : kept (op x y) ≡ z

pub exact : (op : ℤ → ℤ → ℤ) {x y z : ℤ} (u v : ℤ) → x ≡ u → y ≡ v → op u v ≡ z → mag z < 2 ^ 63 → Exact op x y z
exact op {x} {y} {z} u v ex ey e h = record {
  fits = rw (ex, ey, e) (record { sfits = h });
  is = rw (ex, ey, e) (kept_is z h);
}

-- ---- how large the results are

pub mag_abs : (z : ℤ) → mag z ≤ nat_abs z
mag_abs (pos n) = omega arith
mag_abs (negsuc n) = omega arith

pub abs_neg : (z : ℤ) → nat_abs (neg_ℤ z) ≡ nat_abs z
abs_neg (pos zero) = refl
abs_neg (pos (suc n)) = refl
abs_neg (negsuc n) = refl

cell_abs : (t : Bool) (n : ℕ) → nat_abs (cond t (neg_ℤ (pos n)) (pos n)) ≡ n
cell_abs true n = abs_neg (pos n)
cell_abs false n = refl

pub abs_value : (c : ℕ) → nat_abs (value c) ≡ c % 2 ^ 48
unfolding value
abs_value c = cell_abs (negative c) (c % 2 ^ 48)

-- ---- the code's negation

pub negation : (n : ℕ) → n < 2 ^ 63 → Exact ◌-ℤ◌ (pos 0) (kept (pos n)) (neg_ℤ (pos n))
negation n h =
    exact ◌-ℤ◌ (pos 0) (pos n) refl (kept_is (pos n) h) (+ℤ_idl (neg_ℤ (pos n)))
    (omega (arith, mag_abs (neg_ℤ (pos n)), abs_neg (pos n)))

-- ---- the code's test of a sign

pub below : (v : ℤ) → mag v < 2 ^ 63 → lt_z (kept v) (pos 0) ≡ true → v ≡ negsuc (mag v)
below (pos n) h e = absurd (omega (arith, ltb-true n 0 (rw (kept_is (pos n) h) at e)))
below (negsuc n) h e = refl

pub above : (v : ℤ) → mag v < 2 ^ 63 → lt_z (kept v) (pos 0) ≡ false → v ≡ pos (mag v)
above (pos n) h e = refl
above (negsuc n) h e = let z : true ≡ false = rw (kept_is (negsuc n) h) at e in cc

-- ---- the library's casts, as the definitions have them

lowered : (n : ℕ) → n < 2 ^ 64 → negsuc (2 ^ 64 - suc n) ≡ neg_ℤ (pos (2 ^ 64 - n))
lowered n h =
    let e : 2 ^ 64 - n ≡ suc (2 ^ 64 - suc n) = omega arith in
    ap (λ (k : ℕ). neg_ℤ (pos k)) (sym e)

pub signed_of : {n : ℕ} {z : ℤ} → n < 2 ^ 64 → z ≡ to_z w64 n → kept z ≡ signed n
unfolding signed
signed_of {n} {z} h e =
    ap kept e ∙ ap (to_z w64) (of_z-to_z w64 n (record { fits = h })) ∙ ap (λ (z : ℤ). cond (ltb n (2 ^ 63)) (pos n) z) (lowered n h)

word : (z : ℤ) → mag z < 2 ^ 63 → of_z w64 z ≡ modulo64 z
unfolding modulo64
word (pos n) h = omega arith
word (negsuc n) h = omega arith

pub word_of : (c : ℕ) {r : ℕ} {z : ℤ} → mag z < 2 ^ 63 → z ≡ value c → r ≡ of_z w64 (kept z) → r ≡ as_u64 c
unfolding as_u64
word_of c {r} {z} h e w = w ∙ ap (of_z w64) (kept_is z h) ∙ word z h ∙ ap modulo64 e

-- ---- a box by the code's test of the sign

boxed_by : (top : ℕ) (v : ℤ) (t : Bool) → lt_z v (pos 0) ≡ t → cond t (2 ^ 63) 0 + top * 2 ^ 48 + nat_abs v % 2 ^ 48 ≡ boxed top v
unfolding boxed
boxed_by top (pos n) true e = absurd (omega (arith, ltb-true n 0 e))
boxed_by top (pos n) false e = omega arith
boxed_by top (negsuc n) true e = refl
boxed_by top (negsuc n) false e = cc

pub boxed_of : (top : ℕ) (v : ℤ) (t : Bool) → mag v < 2 ^ 63 → lt_z (kept v) (pos 0) ≡ t → cond t (2 ^ 63) 0 + top * 2 ^ 48 + nat_abs (kept v) % 2 ^ 48 ≡ boxed top v
boxed_of top v t h e = rw (kept_is v h) (boxed_by top v t (rw (kept_is v h) at e))
