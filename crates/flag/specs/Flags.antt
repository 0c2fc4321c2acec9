-- The eight flags, as document 01 has them. Bits 0 to 7 are E, L, LE, G, GE, NE, Z, NZ.
use Rattle.std.specs.Prelude.{ℕ, ◌+◌, ◌-◌, ◌/◌, ◌%◌, ◌^◌, Bool, cond, not, eqb, ltb}

-- the flag at a bit, set if the test holds
abbrev pub flag : ℕ → Bool → ℕ
flag bit test = cond test (2 ^ bit) 0

-- cmp(a, b) sets E a = b, L and LE a < b, G and GE a > b, NE a ≠ b, Z a = 0, NZ a ≠ 0
unfoldable pub cmp : ℕ → ℕ → ℕ
cmp a b =
    flag 0 (eqb a b)
    + flag 1 (ltb a b)
    + flag 2 (ltb a b)
    + flag 3 (ltb b a)
    + flag 4 (ltb b a)
    + flag 5 (not (eqb a b))
    + flag 6 (eqb a 0)
    + flag 7 (not (eqb a 0))

-- the bit that a conditional jump tests: JE, JL, JLE, JG, JGE, JNE, JZ, JNZ have the first bytes 12 to 19, in the flags' order
abbrev pub bit_of : ℕ → ℕ
bit_of op = op - 12

-- the jump's flag is set
unfoldable pub is_set : ℕ → ℕ → Bool
is_set flags op = eqb (flags / 2 ^ bit_of op % 2) 1
