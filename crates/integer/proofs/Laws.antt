-- How large sums, differences and quotients of signed numbers are, and those of cells' values.
-- Assumes nothing.
use Rattle.std.proofs.Common.{◌≡◌, ℕ, suc, ◌+◌, ◌-◌, ◌/◌, ◌^◌, ◌<◌, ◌≤◌, Bool, true, false, cond, ltb, ℤ, pos, negsuc, ◌+ℤ◌, ◌-ℤ◌, neg_ℤ, nat_abs, refl, div-le_self, arith, w64, of_z, ltb-true}
use lib.Signed.{mag, quot_z}
use Rattle.nan.specs.Cells.{value}
use Rattle.nan.proofs.Laws.{kept, kept_is, Exact, exact, mag_abs, abs_neg, abs_value}
use Rattle.integer.specs.Integers.{quotient}

abs_sub : (a b : ℕ) (t : Bool) → ltb a b ≡ t → nat_abs (cond t (negsuc (b - suc a)) (pos (a - b))) ≤ a + b
abs_sub a b true e = omega (arith, ltb-true)
abs_sub a b false e = omega arith

pub abs_sum : (x y : ℤ) → nat_abs (x +ℤ y) ≤ nat_abs x + nat_abs y
abs_sum (pos a) (pos b) = omega arith
abs_sum (pos a) (negsuc b) = abs_sub a (suc b) (ltb a (suc b)) refl
abs_sum (negsuc a) (pos b) = omega (arith, abs_sub b (suc a) (ltb b (suc a)) refl)
abs_sum (negsuc a) (negsuc b) = omega arith

pub abs_difference : (x y : ℤ) → nat_abs (x -ℤ y) ≤ nat_abs x + nat_abs y
abs_difference x y = omega (arith, abs_sum x (neg_ℤ y), abs_neg y)

pub abs_quotient : (x y : ℤ) → nat_abs (quot_z x y) ≤ nat_abs x + nat_abs y
abs_quotient (pos a) (pos b) = omega (arith, div-le_self a b)
abs_quotient (pos a) (negsuc b) = omega (arith, abs_neg (pos (a / suc b)), div-le_self a (suc b))
abs_quotient (negsuc a) (pos b) = omega (arith, abs_neg (pos (suc a / b)), div-le_self (suc a) b)
abs_quotient (negsuc a) (negsuc b) = omega (arith, div-le_self (suc a) (suc b))

pub kept_value : (c : ℕ) {x : ℤ} → x ≡ value c → kept x ≡ value c
kept_value c e = rw e (kept_is (value c) (omega (arith, mag_abs (value c), abs_value c)))

-- an operation whose result isn't larger than its operands together, on the values of two cells, or on one and a literal
module _ (op : ℤ → ℤ → ℤ) (bound : (x y : ℤ) → nat_abs (op x y) ≤ nat_abs x + nat_abs y) where
  pub of_cells : (a b : ℕ) {x y : ℤ} → x ≡ value a → y ≡ value b → Exact op (kept x) (kept y) (op (value a) (value b))
  of_cells a b ex ey =
      exact op (value a) (value b) (kept_value a ex) (kept_value b ey) refl
      (omega (arith, mag_abs (op (value a) (value b)), bound (value a) (value b), abs_value a, abs_value b))

  pub of_cell : (a : ℕ) (v : ℤ) {x : ℤ} → nat_abs v < 2 ^ 48 → x ≡ value a → Exact op (kept x) v (op (value a) v)
  of_cell a v h ex =
      exact op (value a) v (kept_value a ex) refl refl
      (omega (arith, mag_abs (op (value a) v), bound (value a) v, abs_value a))

pub bits_positive : (z : ℤ) → mag z < 2 ^ 63 → 0 < nat_abs z → 0 < of_z w64 z
bits_positive (pos n) h k = k
bits_positive (negsuc n) h k = omega arith

pub quotient_is : (x y : ℤ) → quot_z x y ≡ quotient x y
unfolding quotient
quotient_is (pos a) (pos b) = refl
quotient_is (pos a) (negsuc b) = refl
quotient_is (negsuc a) (pos b) = refl
quotient_is (negsuc a) (negsuc b) = refl
