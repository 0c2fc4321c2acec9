-- Eight bytes of a slice, and of a number. Assumes nothing.
use Prim.Native.Nat.{ℕ, suc, ◌<◌, ◌≤◌, ◌+◌, ◌-◌, ◌*◌, ◌/◌, ◌%◌}
use mathlib.Core.Path.{◌≡◌, ap, sym, ◌∙◌}
use mathlib.Core.List.{List, [], ◌∷◌}
use native.Mathlib.Nat.{add-zero}
use native.Mathlib.Omega.{arith}
use lib.ListN.{length, take, drop, get_or, length-drop}
use lib.Seq.{slice, slice-cons, slice_empty, length-take-le, take_all}
use Rattle.std.specs.Int.{w64, from_le_bytes}
use Rattle.std.proofs.lemmas.List.{drop-take}
use Rattle.word.specs.Words.{little_endian, number_of, word}

slice_eight : (s : List ℕ) (at : ℕ) → at + 8 ≤ length s
    → slice at (at + 8) s ≡ get_or s at 0 ∷ get_or s (at + 1) 0 ∷ get_or s (at + 2) 0 ∷ get_or s (at + 3) 0 ∷ get_or s (at + 4) 0 ∷ get_or s (at + 5) 0 ∷ get_or s (at + 6) 0 ∷ get_or s (at + 7) 0 ∷ []
slice_eight s at h =
    let next : (k : ℕ) → k < 8 → slice (at + k) (at + 8) s ≡ get_or s (at + k) 0 ∷ slice (at + (k + 1)) (at + 8) s =
    λ k l. (let n : suc (at + k) ≡ at + (k + 1) = omega arith in rw (← n) (slice-cons (at + k) (at + 8) s 0 (omega arith) h)) in
    let first : slice at (at + 8) s ≡ get_or s at 0 ∷ slice (at + 1) (at + 8) s = rw add-zero at (next 0 (omega arith)) in
    let last : slice (at + 8) (at + 8) s ≡ [] = slice_empty (at + 8) s in
    first ∙ rw (next 1 (omega arith), next 2 (omega arith), next 3 (omega arith), next 4 (omega arith), next 5 (omega arith), next 6 (omega arith), next 7 (omega arith), last)

-- the eight bytes from a place on
pub eight_from : (s : List ℕ) (at : ℕ) → at + 8 ≤ length s
    → number_of (get_or s at 0) (get_or s (at + 1) 0) (get_or s (at + 2) 0) (get_or s (at + 3) 0) (get_or s (at + 4) 0) (get_or s (at + 5) 0) (get_or s (at + 6) 0) (get_or s (at + 7) 0) ≡ word s at
eight_from s at h = ap little_endian (sym (slice_eight s at h))

-- added up, each at its place
pub eight_added : (s : List ℕ) (at : ℕ) → at + 8 ≤ length s
    → get_or s at 0 + 0x100 * get_or s (at + 1) 0 + 0x10000 * get_or s (at + 2) 0 + 0x1000000 * get_or s (at + 3) 0 + 0x100000000 * get_or s (at + 4) 0 + 0x10000000000 * get_or s (at + 5) 0
    + 0x1000000000000 * get_or s (at + 6) 0 + 0x100000000000000 * get_or s (at + 7) 0 ≡ word s at
unfolding little_endian
eight_added s at h = omega (arith, eight_from s at h)

-- eight bytes as the library reads them
little_is : (bs : List ℕ) → length bs ≡ 8 → from_le_bytes w64 bs ≡ little_endian bs
unfolding little_endian
little_is bs l =
    let e : from_le_bytes w64 bs ≡ number_of (get_or bs 0 0) (get_or bs 1 0) (get_or bs 2 0) (get_or bs 3 0) (get_or bs 4 0) (get_or bs 5 0) (get_or bs 6 0) (get_or bs 7 0) = omega arith in
    e ∙ eight_from bs 0 (omega arith) ∙ ap little_endian (take_all 8 bs (omega arith))

-- a number's bytes are its own: each byte with what stands above it
byte_0 : (v : ℕ) → v % 256 + v / 0x100 * 256 ≡ v
byte_0 v = omega arith

byte_1 : (v : ℕ) → v / 0x100 % 256 + v / 0x10000 * 256 ≡ v / 0x100
byte_1 v = omega arith

byte_2 : (v : ℕ) → v / 0x10000 % 256 + v / 0x1000000 * 256 ≡ v / 0x10000
byte_2 v = omega arith

byte_3 : (v : ℕ) → v / 0x1000000 % 256 + v / 0x100000000 * 256 ≡ v / 0x1000000
byte_3 v = omega arith

byte_4 : (v : ℕ) → v / 0x100000000 % 256 + v / 0x10000000000 * 256 ≡ v / 0x100000000
byte_4 v = omega arith

byte_5 : (v : ℕ) → v / 0x10000000000 % 256 + v / 0x1000000000000 * 256 ≡ v / 0x10000000000
byte_5 v = omega arith

byte_6 : (v : ℕ) → v / 0x1000000000000 % 256 + v / 0x100000000000000 * 256 ≡ v / 0x1000000000000
byte_6 v = omega arith

add_up : (v q1 q2 q3 q4 q5 q6 q7 b0 b1 b2 b3 b4 b5 b6 : ℕ) → b0 + q1 * 256 ≡ v → b1 + q2 * 256 ≡ q1 → b2 + q3 * 256 ≡ q2 → b3 + q4 * 256 ≡ q3 → b4 + q5 * 256 ≡ q4 → b5 + q6 * 256 ≡ q5 → b6 + q7 * 256 ≡ q6
    → number_of b0 b1 b2 b3 b4 b5 b6 q7 ≡ v
unfolding little_endian
add_up v q1 q2 q3 q4 q5 q6 q7 b0 b1 b2 b3 b4 b5 b6 e0 e1 e2 e3 e4 e5 e6 = omega arith

pub number_back : (v : ℕ) → number_of (v % 256) (v / 0x100 % 256) (v / 0x10000 % 256) (v / 0x1000000 % 256) (v / 0x100000000 % 256) (v / 0x10000000000 % 256) (v / 0x1000000000000 % 256) (v / 0x100000000000000) ≡ v
number_back v = add_up v _ _ _ _ _ _ _ _ _ _ _ _ _ _ (byte_0 v) (byte_1 v) (byte_2 v) (byte_3 v) (byte_4 v) (byte_5 v) (byte_6 v)

-- the eight bytes from a place on, as a number
pub eight_read : (bs : List ℕ) (at : ℕ) → at + 8 ≤ length bs → from_le_bytes w64 (take (at + 8 - at) (drop at bs)) ≡ word bs at
eight_read bs at h =
    let n : at + 8 - at ≡ 8 = omega arith in
    rw n (little_is (take 8 (drop at bs)) (length-take-le 8 (drop at bs) (omega (arith, length-drop at bs))) ∙ ap little_endian (sym (drop-take at 8 bs)))
