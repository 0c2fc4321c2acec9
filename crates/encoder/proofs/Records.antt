-- The records that are left, their sizes and their bytes. Assumes nothing.
use Prim.Native.Nat.{ℕ, ◌+◌, ◌*◌, ◌<◌, ◌≤◌}
use mathlib.Core.Path.{◌≡◌, refl, sym, ◌∙◌}
use mathlib.Core.Bool.{true, false}
use mathlib.Core.List.{List, [], ◌∷◌}
use native.Mathlib.Nat.{add-zero}
use native.Mathlib.Numerals.{add-one}
use native.Mathlib.Omega.{arith}
use lib.ListN.{length, get_or, take, drop, length-append, drop_of_length-le}
use lib.Seq.{sets, drop-cons, get_or-take, length-take-le, length-sets}
use Rattle.inst.specs.declared.Inst.{Inst}
use Rattle.inst.specs.Records.{well_formed}
use Rattle.inst.proofs.Laws.{and_left, and_right, sets_more}
use Rattle.inst_encode.specs.Encode.{as_bytes}
use Rattle.tables.specs.Tables.{inst, insts_of, inst_of}
use Rattle.tables.proofs.Laws.{record_at, length_records}
use Rattle.machine.specs.Encode.{all_well_formed, bytes_of_all, unencoded, encoded, in_room, size_of}
use Rattle.std.specs.Prelude.{Option, Some, Result}
use Rattle.encoder.specs.declared.EncodeError.{EncodeError}
use Rattle.encoder.specs.Encoder.{means, Fits}
use Rattle.encoder.proofs.Answers.{past, ill, whole}

-- what is left of the first `count` records from record i on
abbrev pub left : List Inst → ℕ → ℕ → List Inst
left is count i = drop i (take count is)

-- r is record i, whatever stands for a record past the table
abbrev pub IsAt : List Inst → ℕ → Inst → Type 0
IsAt is i r = (d : Inst) → r ≡ get_or is i d

-- the record that a program's code reads, and that the program is within its table
pub inst_at : (xs : List ℕ) (count i : ℕ) (r : Inst) → count * 32 ≤ length xs → i < count → r ≡ inst_of xs i → IsAt (insts_of xs) i r
inst_at xs count i r h l e d = e ∙ sym (record_at inst xs i d (omega arith))

pub table_within : (xs : List ℕ) (count : ℕ) → count * 32 ≤ length xs → count ≤ length (insts_of xs)
table_within xs count h = let l = length_records inst xs in omega arith

pub table_past : (image xs : List ℕ) (count : ℕ) → length xs < count * 32 → size_of image (insts_of xs) count ≡ unencoded 9
table_past image xs count h = let l = length_records inst xs in past image (insts_of xs) count (omega arith)

module _ (is : List Inst) (count : ℕ) (within : count ≤ length is) where
  left_next : (i : ℕ) (r : Inst) → i < count → IsAt is i r → left is count i ≡ r ∷ left is count (i + 1)
  left_next i r h e =
      let l : i < length (take count is) = rw (length-take-le count is within) h in
      rw (add-one, drop-cons (take count is) i r l, get_or-take count is i r h, ← (e r))

  left_none : (i : ℕ) → count ≤ i → left is count i ≡ []
  left_none i h = let l : length (take count is) ≤ i = rw (length-take-le count is within) h in drop_of_length-le (take count is) l

-- the first pass at record i: all before are well formed, and r is what their bytes left of the room
pub record Checked (image : List ℕ) (is : List Inst) (count room : ℕ) (r : Option ℕ) (i : ℕ) : Type 0 where
  pub within : count ≤ length is
  pub inside : i ≤ count
  pub well : all_well_formed image (take count is) ≡ all_well_formed image (left is count i)
  pub bytes : ℕ
  pub fits : Fits room bytes r
  pub total : bytes + length (bytes_of_all image (left is count i)) ≡ length (bytes_of_all image (take count is))

module _ (image : List ℕ) (is : List Inst) (count room : ℕ) where
  pub checked_none : count ≤ length is → Checked image is count room (Some room) 0
  unfolding Fits
  checked_none h =
      record { within = h; inside = omega arith; well = refl; bytes = 0; fits = omega arith; total = omega arith }

  module _ (r : Option ℕ) (i : ℕ) (s : Checked image is count room r i) where
    -- the next record is ill
    pub checked_ill : (x : Inst) → i < count → IsAt is i x → well_formed image x ≡ false → size_of image is count ≡ unencoded 9
    unfolding all_well_formed
    checked_ill x h e w = ill image is count (s.well ∙ rw (left_next is count s.within i x h e, w))

    -- or its size is added
    pub checked_next : (x : Inst) (len : ℕ) (r' : Option ℕ) → i < count → IsAt is i x → well_formed image x ≡ true → len ≡ length (as_bytes image x)
        → ((room n : ℕ) → Fits room n r → Fits room (n + len) r') → Checked image is count room r' (i + 1)
    unfolding all_well_formed bytes_of_all
    checked_next x len r' h e w l f =
        let next = left_next is count s.within i x h e in
        let t = simp (next, length-append) at s.total in
        record {
          within = s.within;
          inside = omega arith;
          well = s.well ∙ rw (next, w);
          bytes = s.bytes + len;
          fits = f room s.bytes s.fits;
          total = omega arith;
        }

    pub checked_all : (w : Result ℕ EncodeError) → count ≤ i → ((n : ℕ) → Fits room n r → means w ≡ in_room room (encoded n)) → means w ≡ in_room room (size_of image is count)
    unfolding all_well_formed bytes_of_all
    checked_all w h f =
        let none = left_none is count s.within i h in
        let t = rw (none, add-zero) at s.total in
        f s.bytes s.fits ∙ rw (whole image is count s.within (s.well ∙ rw none), t)

-- the second pass at record i: storing what is left from `at` on gives the whole
pub record Stored (image : List ℕ) (is : List Inst) (count : ℕ) (out₀ out : List ℕ) (at i : ℕ) : Type 0 where
  pub within : count ≤ length is
  pub inside : i ≤ count
  pub well : all_well_formed image (left is count i) ≡ true
  pub fits : at + length (bytes_of_all image (left is count i)) ≤ length out
  pub same : length out ≡ length out₀
  pub gives : sets out at (bytes_of_all image (left is count i)) ≡ sets out₀ 0 (bytes_of_all image (take count is))

module _ (image : List ℕ) (is : List Inst) (count : ℕ) (out₀ out : List ℕ) (at i : ℕ) (s : Stored image is count out₀ out at i) where
  -- what as_bytes requires of the next record
  pub stored_well : (r : Inst) → i < count → IsAt is i r → well_formed image r ≡ true
  unfolding all_well_formed
  stored_well r h e = and_left (well_formed image r) _ (rw (left_next is count s.within i r h e) at s.well)

  pub stored_fits : (r : Inst) → i < count → IsAt is i r → at + length (as_bytes image r) ≤ length out
  unfolding bytes_of_all
  stored_fits r h e = let f = simp (left_next is count s.within i r h e, length-append) at s.fits in omega arith

  pub stored_next : (r : Inst) (out' : List ℕ) (n : ℕ) → i < count → IsAt is i r → n ≡ length (as_bytes image r) → out' ≡ sets out at (as_bytes image r)
      → Stored image is count out₀ out' (at + n) (i + 1)
  unfolding all_well_formed bytes_of_all
  stored_next r out' n h e l p =
      let next = left_next is count s.within i r h e in
      let f = simp (next, length-append) at s.fits in
      let k : length out' ≡ length out = rw (p, length-sets) in
      record {
        within = s.within;
        inside = omega arith;
        well = and_right (well_formed image r) _ (rw next at s.well);
        fits = omega arith;
        same = k ∙ s.same;
        gives = rw (p, l, sets_more) (rw next at s.gives);
      }

  pub stored_all : count ≤ i → out ≡ sets out₀ 0 (bytes_of_all image (take count is))
  unfolding bytes_of_all
  stored_all h = rw (left_none is count s.within i h) at s.gives
