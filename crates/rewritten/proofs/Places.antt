-- Where the instructions of an image begin, and that a load reads each of them there. Assumes nothing.
use Prim.Native.Nat.{ℕ, suc, ◌+◌, ◌<◌, ◌≤◌}
use mathlib.Core.Path.{◌≡◌, refl, ap, sym, ◌∙◌, subst}
use mathlib.Core.Bool.{Bool, true, false}
use mathlib.Core.List.{List, [], ◌∷◌, ◌++◌}
use native.Mathlib.Numerals.{add-one}
use native.Mathlib.Omega.{arith}
use lib.Dec.{ltb}
use lib.ListN.{length, get_or, length-append, get_or-append}
use lib.Seq.{get_or_at}
use borrow.Author.Tests.{ltb-true, ltb-false}
use Rattle.inst.specs.declared.Inst.{Inst}
use Rattle.inst_decode.specs.Decode.{Answer, refused, reads, from_bytes}
use Rattle.inst_decode.proofs.Facts.{read_in_lem}
use Rattle.machine.specs.Load.{halt, Scan, Scanned, stops, goes, scan_one}
use Rattle.machine.proofs.Loads.{one_case}
use Rattle.rewritten.specs.Rewritten.{Begins, first, next}

abbrev read_in : Answer → Inst
read_in (refused n) = halt
read_in (reads i size) = i

abbrev size_in : Answer → ℕ
size_in (refused n) = 0
size_in (reads i size) = size

-- there is one reading
pub one_reading : (image : List ℕ) (at at' : ℕ) (i i' : Inst) (size size' : ℕ) → at ≡ at' → from_bytes image at ≡ reads i size → from_bytes image at' ≡ reads i' size'
    → (i ≡ i') × (size ≡ size')
one_reading image at at' i i' size size' z e e' =
    let q : reads i size ≡ reads i' size' = sym e ∙ ap (from_bytes image) z ∙ e' in
    (ap read_in q, ap size_in q)

-- and one place for each number
pub one_place : (image : List ℕ) (n a b : ℕ) → Begins image n a → Begins image n b → a ≡ b
one_place image n a b first first = refl
one_place image _ _ _ (next n at size i p e) (next _ at' size' i' p' e') =
    let z = one_place image n at at' p p' in
    let r = one_reading image at at' i i' size size' z e e' in
    omega (arith, r.1)

pub begins_inside : (image : List ℕ) (n at : ℕ) → Begins image n at → at ≤ length image
begins_inside image n at first = omega arith
begins_inside image n at (next m a size i p e) = (read_in_lem image a i size e).inside

-- nothing is read at the end
pub none_at_end : (image : List ℕ) (at : ℕ) (i : Inst) (size : ℕ) → length image ≤ at → from_bytes image at ≡ reads i size → ⊥
none_at_end image at i size h e = let r = read_in_lem image at i size e in omega (arith, r.moves, r.inside)

-- ---- a scan

-- instruction number k of the image is i
pub record ReadAt (image : List ℕ) (k : ℕ) (i : Inst) : Type 0 where
  pub at : ℕ
  pub size : ℕ
  pub begins : Begins image k at
  pub is : from_bytes image at ≡ reads i size

-- what one instruction adds
pub record Adds (s : Scan) (i : Inst) (size : ℕ) (t : Scan) : Type 0 where
  pub at_is : t.at ≡ s.at + size
  pub insts_are : t.insts ≡ s.insts ++ (i ∷ [])

unfoldable AddsScanned : Scan → Inst → ℕ → Scanned → Type 0
AddsScanned s i size (stops n) = Unit {0}
AddsScanned s i size (goes t) = Adds s i size t

pub one_adds : (s : Scan) (i : Inst) (size : ℕ) (t : Scan) → scan_one s (reads i size) ≡ goes t → Adds s i size t
unfolding AddsScanned
one_adds s i size t e =
    subst (AddsScanned s i size) e
    (one_case (AddsScanned s i size) s i size tt tt (λ _ _. record { at_is = refl; insts_are = refl }) (λ _. record { at_is = refl; insts_are = refl }))

-- the instructions so far are the image's, each at its place
pub record ReadSoFar (image : List ℕ) (s : Scan) : Type 0 where
  pub ends : Begins image (length s.insts) s.at
  pub each : (k : ℕ) → k < length s.insts → ReadAt image k (get_or s.insts k halt)

module _ (image : List ℕ) where
  longer : (is : List Inst) (i : Inst) (at : ℕ) (size : ℕ) → Begins image (length is) at → from_bytes image at ≡ reads i size
      → ((k : ℕ) → k < length is → ReadAt image k (get_or is k halt)) → (k : ℕ) → k < suc (length is) → (b : Bool) → ltb k (length is) ≡ b
      → ReadAt image k (get_or (is ++ (i ∷ [])) k halt)
  longer is i at size p e f k h true z = let l = ltb-true k (length is) z in rw (get_or-append is (i ∷ []) halt k l) (f k l)
  longer is i at size p e f k h false z =
      let q : length is ≡ k = omega (arith, ltb-false k (length is) z) in
      rw (get_or_at is i [] halt k q) (record { at = at; size = size; begins = rw (← q) p; is = e })

  pub listed_next : (s t : Scan) (i : Inst) (size : ℕ) → ReadSoFar image s → from_bytes image s.at ≡ reads i size → Adds s i size t → ReadSoFar image t
  listed_next s t i size l e a =
      let n : length t.insts ≡ suc (length s.insts) = ap length a.insts_are ∙ length-append s.insts (i ∷ []) ∙ add-one (length s.insts) in
      record {
        ends = rw (n, a.at_is) (next _ _ size i l.ends e);
        each = λ k h. rw a.insts_are (longer s.insts i s.at size l.ends e l.each k (rw n at h) _ refl);
      }
