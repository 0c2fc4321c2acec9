-- The encoder's definition, computed: what it writes, 10, 9 before 10, and the room asked for. Assumes nothing.
use Prim.Native.Nat.{ℕ}
use mathlib.Core.Path.{◌≡◌, refl}
use mathlib.Core.List.{List, [], ◌∷◌}
use lib.ListN.{replicate}
use Rattle.inst.specs.declared.Inst.{Inst}
use Rattle.inst.specs.Forms.{form_of, has_none, has_eight, has_one, has_name}
use Rattle.inst.specs.Records.{plain, named, name_ok, name_in, fits, well_formed}
use Rattle.inst_encode.specs.Encode.{bytes_of, operand_bytes, as_bytes}
use Rattle.machine.specs.Encode.{all_well_formed, bytes_of_all, unencoded, encoded, size_of, in_room, encode, encoded_size, output_after}

-- LABEL f, FDMP 2, IDMP 1, HALT; the name is the image's one byte
insts : List Inst
insts = named 21 0 1 ∷ plain 46 2 ∷ plain 27 1 ∷ plain 69 0 ∷ plain 47 0 ∷ []

image : List ℕ
image = 102 ∷ []

record Computed : Type 0 where
  written : output_after (encode image insts 4 (replicate 17 9)) image insts 4 (replicate 17 9)
      ≡ 21 ∷ 1 ∷ 0 ∷ 0 ∷ 0 ∷ 0 ∷ 0 ∷ 0 ∷ 0 ∷ 102 ∷ 46 ∷ 2 ∷ 27 ∷ 1 ∷ 69 ∷ 9 ∷ 9 ∷ []
  size : encode image insts 4 (replicate 15 9) ≡ encoded 15
  short : encode image insts 4 (replicate 14 9) ≡ unencoded 10
  -- an ill record, or a count past the table, though the output is too short as well
  ill : encode image insts 5 [] ≡ unencoded 9
  past : encode image insts 6 [] ≡ unencoded 9
  -- the room, asked for
  asked : encoded_size image insts 4 ≡ encoded 15
  asked_ill : encoded_size image insts 5 ≡ unencoded 9
  untouched : output_after (unencoded 9) image insts 5 (7 ∷ []) ≡ 7 ∷ []

computed : Computed
unfolding insts image form_of has_none has_eight has_one has_name name_ok name_in fits well_formed bytes_of operand_bytes as_bytes all_well_formed bytes_of_all size_of in_room encode encoded_size output_after
computed = record { written = refl; size = refl; short = refl; ill = refl; past = refl; asked = refl; asked_ill = refl; untouched = refl }
