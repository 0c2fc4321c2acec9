-- Numbers in memory: their bytes, the lowest first.
use Rattle.std.specs.Prelude.{ℕ, ◌+◌, ◌*◌, ◌/◌, ◌%◌, List, [], ◌∷◌}
use Rattle.std.proofs.Math.Seq.{slice}

-- a number of bytes, the lowest first
unfoldable pub little_endian : List ℕ → ℕ
little_endian [] = 0
little_endian (b ∷ bs) = b + 256 * little_endian bs

-- the number of eight bytes
abbrev pub number_of : (a b c d e f g h : ℕ) → ℕ
number_of a b c d e f g h = little_endian (a ∷ b ∷ c ∷ d ∷ e ∷ f ∷ g ∷ h ∷ [])

-- the number of the eight bytes from `at` on
abbrev pub word : List ℕ → ℕ → ℕ
word bytes at = little_endian (slice at (at + 8) bytes)

-- and back: the eight bytes of a number. The last is below 256 for a number of 64 bits
unfoldable pub eight_of : ℕ → List ℕ
eight_of v =
    v % 256 ∷ v / 0x100 % 256 ∷ v / 0x10000 % 256 ∷ v / 0x1000000 % 256 ∷ v / 0x100000000 % 256 ∷ v / 0x10000000000 % 256 ∷ v / 0x1000000000000 % 256 ∷ v / 0x100000000000000 ∷ []
