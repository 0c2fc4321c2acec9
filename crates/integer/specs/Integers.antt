-- The integer operations of cells, as document 01 has them, over signed whole numbers, the library's ℤ.
use Rattle.std.specs.Prelude.{ℕ, suc, ◌/◌, ℤ, pos, negsuc, ◌+ℤ◌, ◌-ℤ◌, ◌*ℤ◌, neg_ℤ}
use Rattle.nan.specs.Cells.{value, modulo64, signed, from_i64}

-- INC, DEC take value of a cell of any type and store from_i64
unfoldable pub inc : ℕ → ℕ
inc c = from_i64 (value c +ℤ pos 1)

unfoldable pub dec : ℕ → ℕ
dec c = from_i64 (value c -ℤ pos 1)

-- IADD, ISUB, IMUL, IDIV of the cells a (left) and b (right)
unfoldable pub iadd : ℕ → ℕ → ℕ
iadd a b = from_i64 (value a +ℤ value b)

unfoldable pub isub : ℕ → ℕ → ℕ
isub a b = from_i64 (value a -ℤ value b)

-- the product is taken modulo 2 ^ 64 as a signed number
unfoldable pub imul : ℕ → ℕ → ℕ
imul a b = from_i64 (signed (modulo64 (value a *ℤ value b)))

-- the quotient truncated toward zero: of the magnitudes, negated if the signs differ
unfoldable pub quotient : ℤ → ℤ → ℤ
quotient (pos a) (pos b) = pos (a / b)
quotient (pos a) (negsuc b) = neg_ℤ (pos (a / suc b))
quotient (negsuc a) (pos b) = neg_ℤ (pos (suc a / b))
quotient (negsuc a) (negsuc b) = pos (suc a / suc b)

unfoldable pub idiv : ℕ → ℕ → ℕ
idiv a b = from_i64 (quotient (value a) (value b))
