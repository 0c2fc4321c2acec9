-- Examples of the definition, computed: the image that document 01 prints, and names at the edge. Assumes nothing.
use Prim.Native.Nat.{ℕ}
use mathlib.Core.Path.{◌≡◌, refl}
use mathlib.Core.List.{List, [], ◌∷◌}
use Rattle.word.specs.Words.{little_endian}
use Rattle.inst.specs.Forms.{has_none, has_eight, has_one, has_name, form_of}
use Rattle.inst.specs.Records.{plain, named, name_ok}
use Rattle.inst_decode.specs.Decode.{refused, reads, type_of, is_negative, read_name, read_operand, from_bytes}

-- LABEL `_start`, PUSH 2, PUSH 3, IMUL, IDMP 1
image : List ℕ
image =
    0x15 ∷ 6 ∷ 0 ∷ 0 ∷ 0 ∷ 0 ∷ 0 ∷ 0 ∷ 0 ∷ 0x5F ∷ 0x73 ∷ 0x74 ∷ 0x61 ∷ 0x72 ∷ 0x74 ∷
    1 ∷ 2 ∷ 0 ∷ 0 ∷ 0 ∷ 0 ∷ 0 ∷ 0xF2 ∷ 0x7F ∷
    1 ∷ 3 ∷ 0 ∷ 0 ∷ 0 ∷ 0 ∷ 0 ∷ 0xF2 ∷ 0x7F ∷
    7 ∷ 0x1B ∷ 1 ∷ []

-- a LABEL with three bytes of its length field, and what stands behind the field
label : ℕ → ℕ → ℕ → List ℕ → List ℕ
label b₀ b₆ b₇ rest = 21 ∷ b₀ ∷ 0 ∷ 0 ∷ 0 ∷ 0 ∷ 0 ∷ b₆ ∷ b₇ ∷ rest

-- the image decodes in five steps, 27 as 46, and then there is no byte
decodes :
    (from_bytes image 0 ≡ reads (named 21 9 6) 15) ×
    (from_bytes image 15 ≡ reads (plain 1 0x7FF2000000000002) 9) ×
    (from_bytes image 24 ≡ reads (plain 1 0x7FF2000000000003) 9) ×
    (from_bytes image 33 ≡ reads (plain 7 0) 1) ×
    (from_bytes image 34 ≡ reads (plain 46 1) 2) ×
    (from_bytes image 36 ≡ refused 2) ×
    (from_bytes image 99 ≡ refused 2)
unfolding image from_bytes form_of has_none has_eight has_one has_name read_operand read_name type_of is_negative little_endian name_ok
decodes = (refl, refl, refl, refl, refl, refl, refl)

-- bit 63 with a magnitude and without; bits 48 to 62; no name; a name or an operand past the end; a byte of 127 and of 128; 47
edges :
    (from_bytes (label 1 0 128 (97 ∷ [])) 0 ≡ refused 3) ×
    (from_bytes (label 0 0 128 []) 0 ≡ reads (named 21 9 0) 9) ×
    (from_bytes (label 1 255 127 (97 ∷ [])) 0 ≡ reads (named 21 9 1) 10) ×
    (from_bytes (label 0 0 0 []) 0 ≡ reads (named 21 9 0) 9) ×
    (from_bytes (label 2 0 0 (97 ∷ [])) 0 ≡ refused 3) ×
    (from_bytes (1 ∷ 2 ∷ []) 0 ≡ refused 3) ×
    (from_bytes (46 ∷ []) 0 ≡ refused 3) ×
    (from_bytes (label 1 0 0 (127 ∷ [])) 0 ≡ reads (named 21 9 1) 10) ×
    (from_bytes (label 1 0 0 (128 ∷ [])) 0 ≡ refused 4) ×
    (from_bytes (47 ∷ []) 0 ≡ refused 2)
unfolding label from_bytes form_of has_none has_eight has_one has_name read_operand read_name type_of is_negative little_endian name_ok
edges = (refl, refl, refl, refl, refl, refl, refl, refl, refl, refl)
