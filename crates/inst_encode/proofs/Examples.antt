-- Examples of the definition, computed: bytes of records. Assumes nothing.
use Prim.Native.Nat.{ℕ}
use mathlib.Core.Path.{◌≡◌, refl}
use mathlib.Core.List.{List, [], ◌∷◌}
use Rattle.inst.specs.Forms.{has_none, has_eight, has_one, has_name, form_of}
use Rattle.inst.specs.Records.{plain, named}
use Rattle.inst_encode.specs.Encode.{bytes_of, operand_bytes, as_bytes}

-- LABEL `_start`
image : List ℕ
image = 0x15 ∷ 6 ∷ 0 ∷ 0 ∷ 0 ∷ 0 ∷ 0 ∷ 0 ∷ 0 ∷ 0x5F ∷ 0x73 ∷ 0x74 ∷ 0x61 ∷ 0x72 ∷ 0x74 ∷ []

-- the records of a LABEL and a PUSH; IDMP is 27, FDMP 46; a name of no byte
encodes :
    (as_bytes image (named 21 9 6) ≡ image) ×
    (as_bytes image (plain 1 0x7FF2000000000003) ≡ 1 ∷ 3 ∷ 0 ∷ 0 ∷ 0 ∷ 0 ∷ 0 ∷ 0xF2 ∷ 0x7F ∷ []) ×
    (as_bytes image (plain 7 0) ≡ 7 ∷ []) ×
    (as_bytes image (plain 27 1) ≡ 27 ∷ 1 ∷ []) ×
    (as_bytes image (plain 46 255) ≡ 46 ∷ 255 ∷ []) ×
    (as_bytes image (named 37 15 0) ≡ 37 ∷ 0 ∷ 0 ∷ 0 ∷ 0 ∷ 0 ∷ 0 ∷ 0 ∷ 0 ∷ [])
unfolding image as_bytes form_of has_none has_eight has_one has_name operand_bytes bytes_of
encodes = (refl, refl, refl, refl, refl, refl)
