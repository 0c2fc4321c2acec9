-- Each instruction's bytes are at its offset. Assumes nothing.
use Prim.Native.Nat.{ℕ, zero, suc, ◌+◌, ◌<◌, ◌≤◌}
use mathlib.Core.Path.{◌≡◌, refl, ap, sym, ◌∙◌}
use mathlib.Core.Bool.{true}
use mathlib.Core.List.{List, [], ◌∷◌, ◌++◌, append_assoc}
use native.Mathlib.Omega.{arith}
use lib.ListN.{length, take, drop, length-append}
use borrow.Author.Tests.{le-leb}
use lib.Seq.{length-take-le, get_or-take, slice, take_at, take-append-add, drop-append-add, drop_at}
use Rattle.inst.specs.declared.Inst.{Inst}
use Rattle.inst.specs.Records.{well_formed}
use Rattle.inst.proofs.Laws.{and_left, and_right}
use Rattle.inst_encode.specs.Encode.{as_bytes, inst_length}
use Rattle.inst_encode.proofs.Facts.{size_is}
use Rattle.machine.specs.Encode.{all_well_formed, bytes_of_all, Encoded, unencoded, encoded, size_of, in_room, encode, output_after}
use Rattle.machine.specs.Load.{halt}
use Rattle.machine.proofs.Lists.{filled}
use Rattle.machine.proofs.Valid.{well_at}
use Rattle.encoder.proofs.Answers.{number_in, Accepted, accepted, whole}
use Rattle.offsets.specs.Offsets.{sum_of_lengths, offset, nth_inst, CanBeWritten, AtOffsets, WritesAtOffsets}

-- parts of two lists, one behind the other, the first of n elements
module _ (xs ys : List ℕ) (n : ℕ) (e : length xs ≡ n) where
  first_part : slice 0 (0 + n) (xs ++ ys) ≡ xs
  first_part = take_at xs ys (0 + n) (omega (arith, e))

  later_part : (f t : ℕ) → slice (n + f) (n + t) (xs ++ ys) ≡ slice f t ys
  later_part f t = rw (← e, take-append-add, drop-append-add)

module _ (image : List ℕ) where
  -- all of the first `count` are well formed, and so each; and back
  each_well : (is : List Inst) (count : ℕ) → count ≤ length is → all_well_formed image (take count is) ≡ true → (k : ℕ) → k < count → well_formed image (nth_inst is k) ≡ true
  each_well is count h w k l =
      ap (well_formed image) (sym (get_or-take count is k halt l)) ∙ well_at image (take count is) k w (rw (length-take-le count is h) l)

  all_well : (is : List Inst) (count : ℕ) → count ≤ length is → ((k : ℕ) → k < count → well_formed image (nth_inst is k) ≡ true) → all_well_formed image (take count is) ≡ true
  unfolding all_well_formed
  all_well is zero h w = refl
  all_well [] (suc count) h w = absurd (omega arith)
  all_well (i ∷ is) (suc count) h w = rw (w 0 (omega arith)) (all_well is count (omega arith) (λ k l. w (suc k) (omega arith)))

  -- the bytes of all are as long as their lengths together
  sum_is : (is : List Inst) → all_well_formed image is ≡ true → length (bytes_of_all image is) ≡ sum_of_lengths is
  unfolding all_well_formed bytes_of_all sum_of_lengths
  sum_is [] w = refl
  sum_is (i ∷ is) w =
      let l = size_is image i (and_left (well_formed image i) _ w) in
      let r = sum_is is (and_right (well_formed image i) _ w) in
      omega (arith, length-append (as_bytes image i) (bytes_of_all image is))

  part_is : (is : List Inst) (count : ℕ) (rest : List ℕ) → count ≤ length is → all_well_formed image (take count is) ≡ true → (k : ℕ) → k < count
      → slice (offset is k) (offset is k + inst_length (nth_inst is k)) (bytes_of_all image (take count is) ++ rest) ≡ as_bytes image (nth_inst is k)
  unfolding all_well_formed bytes_of_all sum_of_lengths
  part_is [] count rest h w k l = absurd (omega arith)
  part_is (i ∷ is) zero rest h w k l = absurd (omega arith)
  part_is (i ∷ is) (suc count) rest h w zero l =
      rw (append_assoc (as_bytes image i) (bytes_of_all image (take count is)) rest)
      (first_part (as_bytes image i) (bytes_of_all image (take count is) ++ rest) (inst_length i) (size_is image i (and_left (well_formed image i) _ w)))
  part_is (i ∷ is) (suc count) rest h w (suc k) l =
      let n = inst_length i in
      let r = part_is is count rest (omega arith) (and_right (well_formed image i) _ w) k (omega arith) in
      let z : n + offset is k + inst_length (nth_inst is k) ≡ n + (offset is k + inst_length (nth_inst is k)) = omega arith in
      rw (z, append_assoc (as_bytes image i) (bytes_of_all image (take count is)) rest)
      (later_part (as_bytes image i) (bytes_of_all image (take count is) ++ rest) n (size_is image i (and_left (well_formed image i) _ w)) _ _ ∙ r)

next_at : (is : List Inst) (k : ℕ) → k < length is → offset is (suc k) ≡ offset is k + inst_length (nth_inst is k)
unfolding sum_of_lengths
next_at [] k h = absurd (omega arith)
next_at (i ∷ is) zero h = omega arith
next_at (i ∷ is) (suc k) h = omega (arith, next_at is k (omega arith))

module _ (image : List ℕ) (insts : List Inst) (count : ℕ) where
  abbrev bytes : List ℕ
  bytes = bytes_of_all image (take count insts)

  sum : CanBeWritten image insts count → length bytes ≡ offset insts count
  sum c = sum_is image (take count insts) (all_well image insts count c.within c.well)

  pub size_is_sum : CanBeWritten image insts count → size_of image insts count ≡ encoded (offset insts count)
  size_is_sum c = whole image insts count c.within (all_well image insts count c.within c.well) ∙ ap encoded (sum c)

  can : (room : ℕ) → Accepted image insts count room → CanBeWritten image insts count
  can room a = record { within = a.within; well = each_well image insts count a.within a.well }

  module _ (out : List ℕ) where
    abbrev after : List ℕ
    after = output_after (encode image insts count out) image insts count out

    answers_sum : CanBeWritten image insts count → offset insts count ≤ length out → encode image insts count out ≡ encoded (offset insts count)
    unfolding encode in_room
    answers_sum c h = rw (size_is_sum c, le-leb (offset insts count) (length out) h)

    -- where a size is answered it is the sum
    module _ (size : ℕ) (e : encode image insts count out ≡ encoded size) where
      a : Accepted image insts count (length out)
      unfolding encode
      a = accepted image insts count (length out) size (sym e)

      fits : offset insts count ≤ length out
      fits = rw (sum (can (length out) a)) at a.fits

      is_sum : offset insts count ≡ size
      is_sum = ap number_in (sym (answers_sum (can (length out) a) fits) ∙ e)

      written : after ≡ bytes ++ drop (length bytes) out
      unfolding output_after
      written = rw e (filled bytes out a.fits)

      rest_is : drop size after ≡ drop size out
      rest_is =
          let n : length bytes ≡ size = sum (can (length out) a) ∙ is_sum in
          ap (drop size) written ∙ drop_at bytes _ size n ∙ ap (λ (n : ℕ). drop n out) n

      at_offsets : AtOffsets image insts count size out after
      unfolding sum_of_lengths
      at_offsets =
          record {
            length_is = λ k l. size_is image (nth_inst insts k) (each_well image insts count a.within a.well k l);
            bytes_are = λ k l. ap (slice (offset insts k) (offset insts k + inst_length (nth_inst insts k))) written ∙ part_is image insts count (drop (length bytes) out) a.within a.well k l;
            first_at = refl;
            next_at = λ k l. next_at insts k (omega (arith, a.within));
            ends_at = is_sum;
            rest_is = rest_is;
          }

    only_then : (size : ℕ) → encode image insts count out ≡ encoded size → CanBeWritten image insts count × (offset insts count ≤ length out)
    only_then size e = (can (length out) (a size e), fits size e)

    refused_is : (x : Encoded) → encode image insts count out ≡ x → ((size : ℕ) → encode image insts count out ≡ encoded size → ⊥) → after ≡ out
    unfolding output_after
    refused_is (unencoded n) e f = rw e
    refused_is (encoded size) e f = absurd (f size e)

    pub writes : WritesAtOffsets image insts count out (λ size. encode image insts count out ≡ encoded size) after
    writes = record { answers_sum = answers_sum; only_then = only_then; at_offsets = at_offsets; refused_is = refused_is (encode image insts count out) refl }
