-- What the records of an image are written as: each instruction where it was in the image, with the image's bytes but for those that change. Assumes nothing.
use Prim.Native.Nat.{ℕ, suc, ◌+◌, ◌<◌, ◌≤◌}
use mathlib.Core.Path.{◌≡◌, refl, ap, sym, ◌∙◌}
use mathlib.Core.Logic.{◌⊎◌, inl, inr}
use mathlib.Core.List.{List, [], ◌∷◌, ◌++◌, append_assoc}
use native.Mathlib.Nat.{eq-or-lt_of_le}
use native.Mathlib.Omega.{arith}
use lib.ListN.{length, get_or, take, drop, length-append, get_or-append}
use lib.Seq.{take-suc, split_at, take-length, get_or-append-add}
use Rattle.inst.specs.declared.Inst.{Inst}
use Rattle.inst.specs.Records.{Bytes}
use Rattle.inst_decode.specs.Decode.{reads, from_bytes}
use Rattle.inst_encode.specs.Encode.{as_bytes}
use Rattle.machine.specs.Load.{halt, Scan}
use Rattle.machine.specs.Encode.{bytes_of_all}
use Rattle.rewritten.specs.Rewritten.{Begins, first, next}
use Rattle.rewritten.proofs.Instructions.{Alike, reads_again}
use Rattle.rewritten.proofs.Places.{one_reading, one_place, none_at_end, ReadSoFar}

pub bytes_append : (image : List ℕ) (xs ys : List Inst) → bytes_of_all image (xs ++ ys) ≡ bytes_of_all image xs ++ bytes_of_all image ys
unfolding bytes_of_all
bytes_append image [] ys = refl
bytes_append image (x ∷ xs) ys = ap (λ (l : List ℕ). as_bytes image x ++ l) (bytes_append image xs ys) ∙ sym (append_assoc (as_bytes image x) (bytes_of_all image xs) (bytes_of_all image ys))

-- a part in the middle of a list
module _ (w xs bs rest : List ℕ) (e : w ≡ xs ++ (bs ++ rest)) where
  middle_at : (j : ℕ) → j < length bs → get_or w (length xs + j) 0 ≡ get_or bs j 0
  middle_at j h = rw e (get_or-append-add xs (bs ++ rest) j 0 ∙ get_or-append bs rest 0 j h)

  middle_inside : length xs + length bs ≤ length w
  middle_inside = rw (e, length-append, length-append) (omega arith)

-- a scan to the last byte
module _ (image : List ℕ) (bytes : Bytes image) (s : Scan) (listed : ReadSoFar image s) (to_end : s.at ≡ length image) where
  abbrev is : List Inst
  is = s.insts

  -- the image has no more instructions than were read
  pub number_below : (k at : ℕ) → Begins image k at → k ≤ length is
  number_below k at first = omega arith
  number_below k at (next m a size i p e) = by (eq-or-lt_of_le (number_below m a p))
    where
      by : (m ≡ length is) ⊎ (m < length is) → suc m ≤ length is
      by (inl q) = absurd (none_at_end image a i size (omega (arith, one_place image m a s.at p (rw q listed.ends))) e)
      by (inr h) = h

  -- number k begins at the end only where the image has k instructions
  pub number_at_end : (k at : ℕ) → Begins image k at → at ≡ length image → k ≡ length is
  number_at_end k at p q = by (eq-or-lt_of_le (number_below k at p))
    where
      by : (k ≡ length is) ⊎ (k < length is) → k ≡ length is
      by (inl z) = z
      by (inr h) =
          let r = listed.each k h in
          absurd (none_at_end image r.at _ r.size (omega (arith, one_place image k r.at at r.begins p)) r.is)

  -- record k is what is read at place k
  pub inst_is : (k at : ℕ) (i : Inst) (size : ℕ) → Begins image k at → from_bytes image at ≡ reads i size → (k < length is) × (get_or is k halt ≡ i)
  inst_is k at i size p e =
      let h = number_below (suc k) (at + size) (next k at size i p e) in
      let r = listed.each k h in
      (h, (one_reading image r.at at (get_or is k halt) i r.size size (one_place image k r.at at r.begins p) r.is e).0)

  -- a place is where the records before it are written up to
  place_is : (k at : ℕ) → Begins image k at → at ≡ length (bytes_of_all image (take k is))
  unfolding bytes_of_all
  place_is k at first = refl
  place_is k at (next m a size i p e) =
      let r = inst_is m a i size p e in
      let q = place_is m a p in
      let n = (reads_again image a bytes i size e).written.size_is in
      let t : take (suc m) is ≡ take m is ++ (i ∷ []) = take-suc is m halt r.0 ∙ ap (λ (x : Inst). take m is ++ (x ∷ [])) r.1 in
      let b = ap length (ap (bytes_of_all image) t ∙ bytes_append image (take m is) (i ∷ [])) ∙ length-append (bytes_of_all image (take m is)) (bytes_of_all image (i ∷ [])) in
      omega (arith, length-append (as_bytes image i) [])

  -- the records' bytes, with anything behind them, have each instruction at its place
  module _ (tail : List Inst) where
    abbrev w : List ℕ
    w = bytes_of_all image (is ++ tail)

    cut : (k : ℕ) (i : Inst) → k < length is → get_or is k halt ≡ i → w ≡ bytes_of_all image (take k is) ++ (as_bytes image i ++ bytes_of_all image (drop (suc k) is ++ tail))
    unfolding bytes_of_all
    cut k i h e =
        let q : is ++ tail ≡ take k is ++ (i ∷ (drop (suc k) is ++ tail)) =
        ap (λ (x : List Inst). x ++ tail) (split_at is k halt h ∙ ap (λ (x : Inst). take k is ++ (x ∷ drop (suc k) is)) e) ∙ append_assoc (take k is) (i ∷ drop (suc k) is) tail in
        ap (bytes_of_all image) q ∙ bytes_append image (take k is) (i ∷ (drop (suc k) is ++ tail))

    pub alike : (k at : ℕ) (i : Inst) (size : ℕ) → Begins image k at → from_bytes image at ≡ reads i size → Alike image w at size
    alike k at i size p e =
        let r = inst_is k at i size p e in
        let a = (reads_again image at bytes i size e).written in
        let c = cut k i r.0 r.1 in
        let xs = bytes_of_all image (take k is) in
        let bs = as_bytes image i in
        let rest = bytes_of_all image (drop (suc k) is ++ tail) in
        let q = place_is k at p in
        let m : length xs + length bs ≤ length w = middle_inside w xs bs rest c in
        record {
          inside = omega (arith, a.size_is);
          bytes_are = λ j h. rw q (middle_at w xs bs rest c j (rw a.size_is h)) ∙ a.bytes_are j h;
        }

  -- without anything behind them they are as long as the image
  pub size_is : length (bytes_of_all image is) ≡ length image
  size_is = ap (λ (x : List Inst). length (bytes_of_all image x)) (sym (take-length is)) ∙ sym (place_is (length is) s.at listed.ends) ∙ to_end
