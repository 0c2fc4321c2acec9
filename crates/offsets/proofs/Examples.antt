-- Examples of the definitions, computed: offsets, and the parts of an output that begin there. Assumes nothing.
use Prim.Native.Nat.{ℕ}
use mathlib.Core.Path.{◌≡◌, refl}
use mathlib.Core.List.{List, [], ◌∷◌}
use lib.ListN.{replicate}
use lib.Seq.{slice}
use Rattle.inst.specs.declared.Inst.{Inst}
use Rattle.inst.specs.Forms.{form_of, has_none, has_eight, has_one, has_name}
use Rattle.inst.specs.Records.{plain, named, name_ok, name_in, fits, well_formed}
use Rattle.inst_encode.specs.Encode.{bytes_of, operand_bytes, as_bytes, size_by}
use Rattle.machine.specs.Encode.{all_well_formed, bytes_of_all, unencoded, encoded, size_of, in_room, encode, output_after}
use Rattle.offsets.specs.Offsets.{sum_of_lengths, offset}

-- the names of a JMP and of a LABEL. A name of no byte begins at the image's end
image : List ℕ
image = 97 ∷ 98 ∷ 99 ∷ []

-- LABEL of no name, PUSH, JMP `ab`, IDMP 1, LABEL `c`, HALT; and a record that is ill
insts : List Inst
insts = named 21 3 0 ∷ plain 1 0x7FF2000000000003 ∷ named 20 0 2 ∷ plain 27 1 ∷ named 21 2 1 ∷ plain 69 0 ∷ plain 255 0 ∷ []

abbrev output : ℕ → List ℕ → List ℕ
output count out = output_after (encode image insts count out) image insts count out

record Computed : Type 0 where
  offsets : (offset insts 0 ≡ 0) × (offset insts 1 ≡ 9) × (offset insts 2 ≡ 18) × (offset insts 3 ≡ 29) × (offset insts 4 ≡ 31) × (offset insts 5 ≡ 41) × (offset insts 6 ≡ 42)
  -- the size of the first k instructions is where instruction k begins
  sizes : (encode image insts 6 (replicate 43 7) ≡ encoded 42) × (encode image insts 3 (replicate 43 7) ≡ encoded 29)
  unnamed : slice 0 9 (output 6 (replicate 43 7)) ≡ 21 ∷ 0 ∷ 0 ∷ 0 ∷ 0 ∷ 0 ∷ 0 ∷ 0 ∷ 0 ∷ []
  jump : slice 18 29 (output 6 (replicate 43 7)) ≡ 20 ∷ 2 ∷ 0 ∷ 0 ∷ 0 ∷ 0 ∷ 0 ∷ 0 ∷ 0 ∷ 97 ∷ 98 ∷ []
  dump : slice 29 31 (output 6 (replicate 43 7)) ≡ 27 ∷ 1 ∷ []
  label : slice 31 41 (output 6 (replicate 43 7)) ≡ 21 ∷ 1 ∷ 0 ∷ 0 ∷ 0 ∷ 0 ∷ 0 ∷ 0 ∷ 0 ∷ 99 ∷ []
  halt : slice 41 42 (output 6 (replicate 43 7)) ≡ 69 ∷ []
  behind : slice 42 43 (output 6 (replicate 43 7)) ≡ 7 ∷ []
  -- room for all, to the byte, and a byte less: 10, and nothing is written
  exact : encode image insts 6 (replicate 42 7) ≡ encoded 42
  short : (encode image insts 6 (replicate 41 7) ≡ unencoded 10) × (output 6 (replicate 41 7) ≡ replicate 41 7)
  -- the ill record among them: 9, and nothing is written
  ill : (encode image insts 7 (replicate 43 7) ≡ unencoded 9) × (output 7 (replicate 43 7) ≡ replicate 43 7)
  -- no instruction: of this table, and of an empty one
  none : (encode image insts 0 (7 ∷ []) ≡ encoded 0) × (output 0 (7 ∷ []) ≡ 7 ∷ [])
  empty : (encode [] [] 0 [] ≡ encoded 0) × (offset [] 0 ≡ 0)

computed : Computed
unfolding insts image form_of has_none has_eight has_one has_name name_ok name_in fits well_formed bytes_of operand_bytes as_bytes size_by all_well_formed bytes_of_all size_of in_room encode output_after sum_of_lengths
computed =
    record {
      offsets = (refl, refl, refl, refl, refl, refl, refl);
      sizes = (refl, refl);
      unnamed = refl;
      jump = refl;
      dump = refl;
      label = refl;
      halt = refl;
      behind = refl;
      exact = refl;
      short = (refl, refl);
      ill = (refl, refl);
      none = (refl, refl);
      empty = (refl, refl);
    }
