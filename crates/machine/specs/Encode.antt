-- The encoder (to_binary), as document 01 has it: a table of records written out; and the room that it takes (document 02, request b).
use Rattle.std.specs.Prelude.{ℕ, ◌-◌, ◌^◌, Bool, true, cond, ◌&&◌, List, [], ◌∷◌, ◌++◌, leb, length, take}
use Rattle.std.proofs.lemmas.List.Edits.{sets}
use Rattle.inst.specs.declared.Inst.{Inst}
use Rattle.inst.specs.Records.{well_formed}
use Rattle.inst_encode.specs.Encode.{as_bytes}

unfoldable pub all_well_formed : List ℕ → List Inst → Bool
all_well_formed image [] = true
all_well_formed image (i ∷ is) = well_formed image i && all_well_formed image is

-- the records' bytes, one after the other
unfoldable pub bytes_of_all : List ℕ → List Inst → List ℕ
bytes_of_all image [] = []
bytes_of_all image (i ∷ is) = as_bytes image i ++ bytes_of_all image is

-- a number, or how many bytes are written
pub data Encoded : Type 0 where
  unencoded : ℕ → Encoded
  encoded : ℕ → Encoded

-- 9, an ill record as in 34 or a count past its table; else how many bytes the records have
unfoldable pub size_of : List ℕ → List Inst → ℕ → Encoded
size_of image insts count =
    let records = take count insts in
    cond (leb count (length insts) && all_well_formed image records) (encoded (length (bytes_of_all image records))) (unencoded 9)

-- then 10, a room shorter than needed
unfoldable pub in_room : ℕ → Encoded → Encoded
in_room room (unencoded n) = unencoded n
in_room room (encoded size) = cond (leb size room) (encoded size) (unencoded 10)

-- the call, with the lent output
unfoldable pub encode : List ℕ → List Inst → ℕ → List ℕ → Encoded
encode image insts count out = in_room (length out) (size_of image insts count)

-- The room, asked for before an output is lent: 9, or the size. No output is longer than 2^64 - 1 bytes, so 10 says that none has the room
unfoldable pub encoded_size : List ℕ → List Inst → ℕ → Encoded
encoded_size image insts count = in_room (2 ^ 64 - 1) (size_of image insts count)

-- the output after the call: the bytes, and the rest unchanged; with a number nothing is written
unfoldable pub output_after : Encoded → List ℕ → List Inst → ℕ → List ℕ → List ℕ
output_after (unencoded n) image insts count out = out
output_after (encoded size) image insts count out = sets out 0 (bytes_of_all image (take count insts))
