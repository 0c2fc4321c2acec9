-- Products of signed numbers modulo 2 ^ 64, by their words.
-- Assumes nothing.
use Rattle.std.proofs.Common.{◌≡◌, ℕ, zero, suc, ◌+◌, ◌*◌, ◌/◌, ◌%◌, ◌^◌, ℤ, pos, negsuc, ◌*ℤ◌, neg_ℤ, ap, mul_assoc, mul_comm, mul-zero, div-add-mod', mul-add, arith}
use Rattle.nan.specs.Cells.{modulo64}

-- a product by the quotient and the remainder of its right factor
split : (m x y : ℕ) → x * y ≡ x * (y / m) * m + x * (y % m)
split m x y = rw (mul_assoc, ← mul-add, div-add-mod')

-- a factor keeps two numbers equal, or opposite, modulo 2 ^ 64
same : (y a r : ℕ) → a % 2 ^ 64 ≡ r % 2 ^ 64 → y * a % 2 ^ 64 ≡ y * r % 2 ^ 64
same y a r h = omega (arith, split (2 ^ 64) y a, split (2 ^ 64) y r, ap (λ (n : ℕ). y * n) h)

opposite : (y a r : ℕ) → (a + r) % 2 ^ 64 ≡ 0 → (y * a + y * r) % 2 ^ 64 ≡ 0
opposite y a r h = omega (arith, mul-add y a r, split (2 ^ 64) y (a + r), ap (λ (n : ℕ). y * n) h, mul-zero y)

-- r is z modulo 2 ^ 64
Word : ℤ → ℕ → Type 0
Word (pos n) r = n % 2 ^ 64 ≡ r % 2 ^ 64
Word (negsuc n) r = (suc n + r) % 2 ^ 64 ≡ 0

word_is : (z : ℤ) (r : ℕ) → Word z r → modulo64 z ≡ r % 2 ^ 64
unfolding Word modulo64
word_is (pos n) r h = h
word_is (negsuc n) r h = omega arith

word_of : (z : ℤ) → Word z (modulo64 z)
unfolding Word modulo64
word_of (pos n) = omega arith
word_of (negsuc n) = omega arith

word_neg : (n r : ℕ) → (n + r) % 2 ^ 64 ≡ 0 → Word (neg_ℤ (pos n)) r
unfolding Word
word_neg zero r h = omega arith
word_neg (suc n) r h = h

word_mul : (x y : ℤ) (r s : ℕ) → Word x r → Word y s → Word (x *ℤ y) (r * s)
unfolding Word
word_mul (pos a) (pos b) r s p q = omega (arith, same a b s q, same s a r p, mul_comm a s, mul_comm s r)
word_mul (pos a) (negsuc b) r s p q =
    word_neg (a * suc b) (r * s) (omega (arith, opposite a (suc b) s q, same s a r p, mul_comm a s, mul_comm s r))
word_mul (negsuc a) (pos b) r s p q =
    word_neg (suc a * b) (r * s) (omega (arith, same (suc a) b s q, opposite s (suc a) r p, mul_comm (suc a) s, mul_comm s r))
word_mul (negsuc a) (negsuc b) r s p q =
    omega (arith, opposite (suc a) (suc b) s q, opposite s (suc a) r p, mul_comm (suc a) s, mul_comm s r)

pub product : (x y : ℤ) {p q : ℕ} → p ≡ modulo64 x → q ≡ modulo64 y → p * q % 2 ^ 64 ≡ modulo64 (x *ℤ y)
product x y e f =
    rw (e, f, word_is (x *ℤ y) (modulo64 x * modulo64 y) (word_mul x y (modulo64 x) (modulo64 y) (word_of x) (word_of y)))
