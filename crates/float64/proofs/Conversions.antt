-- Conversions between patterns and whole numbers, and the test against zero, from the library's values to those of crate binary64.
use Rattle.std.proofs.Common.{◌≡◌, ℕ, ◌+◌, ◌-◌, ◌*◌, ◌/◌, ◌^◌, ◌<◌, ◌≤◌, min, Bool, true, false, cond, ltb, ℤ, pos, neg_ℤ, w64, to_z, of_z, sym, refl, ap, ◌∙◌, le_refl, zero-mul, arith, pow_pos, le-ltb, le-leb}
use lib.Signed.{mag}
use mir.ValLaws.{to_z-of_z}
use lib.Ieee.{Float, fin, binary64, up, down, lt, of_int, of_bits, to_bits, to_unsigned, to_signed}
use lib.Ieee.Fits.{down_pos}
use lib.Ieee.Nearest.{div_same}
use Rattle.binary64.proofs.Rounded.{theorems}
use Rattle.binary64.proofs.Special.{nan_is}
use Rattle.float64.proofs.Decode.{Means, not_number, endless, number, read}
use Rattle.float64.proofs.Encode.{round_bits}
use Rattle.float64.proofs.Operations.{ltb_same}
use Rattle.binary64.specs.Binary64.{is_nan, Value, not_a_number, infinite, finite, value, signed_whole, unsigned_whole, negative, to_i64, to_u64, below_zero, of_whole}

abbrev origin : Float
origin = fin false 0 (pos 0)

-- ---- the library's conversions of the value that a pattern stands for
module _ (m u : ℕ) (e : ℤ) (a : m * up e * 2 ^ 1074 ≡ u * down e) where
  part : m * up e / down e ≡ u / 2 ^ 1074
  part = div_same (m * up e) (down e) u (2 ^ 1074) (down_pos e) (pow_pos 1074) a

  signed_part : (s : Bool) → to_signed 63 (fin s m e) ≡ signed_whole (finite s u)
  unfolding to_signed signed_whole
  signed_part true = ap (λ (q : ℕ). neg_ℤ (pos (min q (2 ^ 63)))) part
  signed_part false = ap (λ (q : ℕ). pos (min q (2 ^ 63 - 1))) part

  unsigned_part : (s : Bool) → to_unsigned 64 (fin s m e) ≡ unsigned_whole (finite s u)
  unfolding to_unsigned unsigned_whole
  unsigned_part true = refl
  unsigned_part false = ap (λ (q : ℕ). min q (2 ^ 64 - 1)) part

  below_part : (s : Bool) → lt (fin s m e) origin ≡ negative (finite s u)
  unfolding lt negative
  below_part true =
      let r : m * up e * 1 + 0 * 1 * down e ≡ m * up e = omega arith in
      ap (ltb 0) r ∙ ltb_same 0 (m * up e) (down e) 0 u (down_pos e) (sym (zero-mul (down e))) a
  below_part false = le-ltb (m * up e * 1) (0 * 1 * down e) (omega arith)

signed_means : {p : Value} {x : Float} → Means p x → to_signed 63 x ≡ signed_whole p
unfolding to_signed signed_whole
signed_means not_number = refl
signed_means (endless true) = refl
signed_means (endless false) = refl
signed_means (number s u m e a) = signed_part m u e a s

unsigned_means : {p : Value} {x : Float} → Means p x → to_unsigned 64 x ≡ unsigned_whole p
unfolding to_unsigned unsigned_whole
unsigned_means not_number = refl
unsigned_means (endless true) = refl
unsigned_means (endless false) = refl
unsigned_means (number s u m e a) = unsigned_part m u e a s

below_means : {p : Value} {x : Float} → Means p x → lt x origin ≡ negative p
unfolding lt negative
below_means not_number = refl
below_means (endless s) = refl
below_means (number s u m e a) = below_part m u e a s

-- ---- as the code writes them
pub nan_whole : (a : ℕ) → is_nan a ≡ true → pos 0 ≡ to_i64 a
unfolding to_i64 signed_whole
nan_whole a n = rw (nan_is a n)

no_whole : (b c : Bool) (u : ℕ) → 0 ≡ unsigned_whole (cond b not_a_number (cond c (infinite true) (finite true u)))
unfolding unsigned_whole
no_whole true c u = refl
no_whole false true u = refl
no_whole false false u = refl

pub sign_whole : (a : ℕ) → 2 ^ 63 ≤ a → 0 ≡ to_u64 a
unfolding to_u64 value
sign_whole a h = rw (le-leb (2 ^ 63) a h) (no_whole _ _ _)

module _ (a : ℕ) {x : Float} (p : x ≡ of_bits binary64 a) where
  pub signed_of : {r : ℤ} → mag r < 2 ^ 63 → r ≡ to_signed 63 x → to_z w64 (of_z w64 r) ≡ to_i64 a
  unfolding to_i64
  signed_of {r} h e = to_z-of_z w64 r (record { sfits = h }) ∙ e ∙ signed_means (read a p)

  pub unsigned_of : {r : ℕ} → r ≡ to_unsigned 64 x → r ≡ to_u64 a
  unfolding to_u64
  unsigned_of e = e ∙ unsigned_means (read a p)

  pub below_of : lt x (of_bits binary64 0) ≡ below_zero a
  unfolding of_bits below_zero
  below_of = below_means (read a p)

-- ---- from a whole number
module _ (n : ℕ) {r : ℕ} {x : Float} (w : x ≡ of_int binary64 (pos n)) (e : r ≡ to_bits binary64 x) where
  pub whole_of : r ≡ of_whole n
  unfolding of_int of_whole
  whole_of = e ∙ ap (to_bits binary64) w ∙ round_bits false n 1 (le_refl 1)

  pub exact_of : n ≤ 2 ^ 53 → value r ≡ finite false (n * 2 ^ 1074)
  exact_of h = ap value whole_of ∙ theorems.whole_exact n h
