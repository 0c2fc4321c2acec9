-- The bytes of what is written: all are bytes, and which of them are not the image's. Assumes nothing.
use Prim.Native.Nat.{ℕ, zero, suc, ◌+◌, ◌-◌, ◌<◌, ◌≤◌}
use mathlib.Core.Path.{◌≡◌, refl, ap, sym, ◌∙◌, subst}
use mathlib.Core.Logic.{◌⊎◌, inl, inr}
use mathlib.Core.Bool.{Bool, true, false, ◌&&◌}
use mathlib.Core.List.{List, [], ◌∷◌, ◌++◌}
use native.Mathlib.Nat.{add-zero, eq-or-lt_of_le}
use native.Mathlib.Omega.{arith}
use lib.Dec.{eqb, ltb, leb, lit<, eqb-suc-zero}
use lib.ListN.{length, get_or, get_or-eq_default}
use borrow.Author.Tests.{ltb-true, ltb-false, leb-true, eqb-true}
use Rattle.word.specs.Words.{word}
use Rattle.inst.specs.declared.Inst.{Inst}
use Rattle.inst.specs.Forms.{Form, none, eight, one, name, undefined, has_none, has_eight, has_one, has_name, form_of, within}
use Rattle.inst.specs.Records.{Bytes, name_ok, part}
use Rattle.inst.proofs.Laws.{by_test, never, and_left, and_right}
use Rattle.inst_decode.specs.Decode.{Answer, refused, reads, type_of, magnitude, is_negative, read_name, read_operand, from_bytes}
use Rattle.inst_decode.proofs.Facts.{read_in_lem}
use Rattle.inst_encode.specs.Encode.{as_bytes}
use Rattle.machine.specs.Load.{halt, Scan, begin}
use Rattle.machine.specs.Encode.{bytes_of_all}
use Rattle.rewritten.specs.Rewritten.{Begins, Changes, dump, high_byte, BytesKept}
use Rattle.rewritten.proofs.Instructions.{is_name, written_byte, first_byte, zero_byte, Alike, reads_again}
use Rattle.rewritten.proofs.Places.{one_place, one_adds, ReadAt, ReadSoFar}
use Rattle.rewritten.proofs.Scans.{Scans, done, more, listed, begin_listed, step_listed}
use Rattle.rewritten.proofs.Written.{number_below}

-- ---- bytes

type_byte : (op : ℕ) → op < 256 → type_of op < 256
unfolding type_of
type_byte op h = by_test (λ t. t < 256) (eqb op 27) 46 op (λ _. lit< tt) (λ _. h)

module _ (image : List ℕ) (bytes : Bytes image) where
  written_small : (at j : ℕ) → written_byte image at j < 256
  unfolding written_byte
  written_small at j =
      by_test (λ b. b < 256) (eqb j 0) _ _ (λ _. type_byte _ (bytes at))
      (λ _. by_test (λ b. b < 256) (is_name (form_of (get_or image at 0)) && within 7 8 j) 0 _ (λ _. lit< tt) (λ _. bytes (at + j)))

  pub inst_bytes : (k : ℕ) (i : Inst) → ReadAt image k i → Bytes (as_bytes image i)
  inst_bytes k i r j = by (ltb j r.size) refl
    where
      by : (b : Bool) → ltb j r.size ≡ b → get_or (as_bytes image i) j 0 < 256
      by true e = rw ((reads_again image r.at bytes i r.size r.is).written.bytes_are j (ltb-true j r.size e)) (written_small r.at j)
      by false e =
          let n = (reads_again image r.at bytes i r.size r.is).written.size_is in
          rw (get_or-eq_default (as_bytes image i) 0 {n = j} (omega (arith, ltb-false j r.size e))) (lit< tt)

append_bytes : (xs ys : List ℕ) → Bytes xs → Bytes ys → Bytes (xs ++ ys)
append_bytes [] ys f g k = g k
append_bytes (x ∷ xs) ys f g zero = f 0
append_bytes (x ∷ xs) ys f g (suc k) = append_bytes xs ys (λ j. f (suc j)) g k

pub all_bytes : (image : List ℕ) (is : List Inst) → ((k : ℕ) → k < length is → Bytes (as_bytes image (get_or is k halt))) → Bytes (bytes_of_all image is)
unfolding bytes_of_all
all_bytes image [] f k = lit< tt
all_bytes image (i ∷ is) f k = append_bytes (as_bytes image i) (bytes_of_all image is) (f 0 (omega arith)) (all_bytes image is (λ j h. f (suc j) (omega arith))) k

-- ---- the bytes that change

-- an instruction with a name has its eight length bytes
abbrev NineAtLeast : Answer → Type 0
NineAtLeast (refused n) = Unit {0}
NineAtLeast (reads i size) = 9 ≤ size

nine : (image : List ℕ) (at : ℕ) (i : Inst) (size : ℕ) → form_of (get_or image at 0) ≡ name → from_bytes image at ≡ reads i size → 9 ≤ size
unfolding from_bytes read_operand read_name
nine image at i size f e =
    let op = get_or image at 0 in
    let len = magnitude (word image (at + 1)) in
    let named : NineAtLeast (read_name image at op (word image (at + 1))) =
    by_test NineAtLeast (is_negative (word image (at + 1))) _ _ (λ _. tt)
    (λ _. by_test NineAtLeast (ltb (length image) (at + 9 + len)) _ _ (λ _. tt)
    (λ _. by_test NineAtLeast (name_ok (part image (at + 9) len)) _ _ (λ _. omega arith) (λ _. tt))) in
    subst NineAtLeast e
    (by_test NineAtLeast (leb (length image) at) _ _ (λ _. tt)
    (λ _. rw f (by_test NineAtLeast (ltb (length image) (at + 9)) _ _ (λ _. tt) (λ _. named))))

only_name : (f : Form) → is_name f ≡ true → f ≡ name
only_name none e = never e
only_name eight e = never e
only_name one e = never e
only_name name e = refl
only_name undefined e = never e

no_name_at_zero : form_of 0 ≡ none
unfolding form_of has_none has_eight has_one has_name
no_name_at_zero = refl

-- past the end there is no first byte 27, and none with a name
module _ (image : List ℕ) (at : ℕ) where
  dump_inside : get_or image at 0 ≡ 27 → at < length image
  dump_inside e = by (ltb at (length image)) refl
    where
      by : (b : Bool) → ltb at (length image) ≡ b → at < length image
      by true z = ltb-true _ _ z
      by false z = absurd (omega (arith, e, get_or-eq_default image 0 {n = at} (ltb-false _ _ z)))

  name_inside : form_of (get_or image at 0) ≡ name → at < length image
  name_inside e = by (ltb at (length image)) refl
    where
      by : (b : Bool) → ltb at (length image) ≡ b → at < length image
      by true z = ltb-true _ _ z
      by false z =
          let q : none ≡ name = sym no_name_at_zero ∙ ap form_of (sym (get_or-eq_default image 0 {n = at} (ltb-false _ _ z))) ∙ e in cc

-- byte k belongs to the instruction that begins at `at`
record Covered (image : List ℕ) (k : ℕ) : Type 0 where
  index : ℕ
  at : ℕ
  inst : Inst
  size : ℕ
  begins : Begins image index at
  is : from_bytes image at ≡ reads inst size
  before : at ≤ k
  behind : k < at + size

covered : (image : List ℕ) (k : ℕ) (s u : Scan) → Scans image s u → ReadSoFar image s → s.at ≤ k → k < u.at → Covered image k
covered image k s u (done _) l h g = absurd (omega arith)
covered image k s u (more _ t _ q r) l h g = by (λ z. covered image k t u r (step_listed image s t q l) z g) (ltb k t.at) refl
  where
    a : t.at ≡ s.at + q.size
    a = (one_adds s q.inst q.size t q.goes_on).at_is

    by : (t.at ≤ k → Covered image k) → (b : Bool) → ltb k t.at ≡ b → Covered image k
    by f true z = record { index = length s.insts; at = s.at; inst = q.inst; size = q.size; begins = l.ends; is = q.is; before = h; behind = omega (arith, a, ltb-true k t.at z) }
    by f false z = f (ltb-false k t.at z)

kept_byte : (image : List ℕ) (n at : ℕ) → Begins image n at → (j : ℕ) → ((b : ℕ) → Changes image (at + j) b → ⊥) → written_byte image at j ≡ get_or image (at + j) 0
unfolding written_byte type_of
kept_byte image n at p zero g =
    by_test (λ b. b ≡ get_or image (at + 0) 0) (eqb (get_or image at 0) 27) 46 (get_or image at 0)
    (λ e. absurd (g 46 (rw add-zero (dump n at p (eqb-true _ 27 e)))))
    (λ _. rw add-zero)
kept_byte image n at p (suc j) g =
    let f = is_name (form_of (get_or image at 0)) in
    rw eqb-suc-zero
    (by_test (λ b. b ≡ get_or image (at + suc j) 0) (f && within 7 8 (suc j)) 0 _
    (λ e. absurd (g 0 (high_byte n at (suc j) p (only_name _ (and_left f _ e)) (and_right f _ e))))
    (λ _. refl))

module _ (image w : List ℕ) (bytes : Bytes image) (s : Scan) (r : Scans image begin s) (to_end : s.at ≡ length image)
    (alike : (k at : ℕ) (i : Inst) (size : ℕ) → Begins image k at → from_bytes image at ≡ reads i size → Alike image w at size) where
  -- where an instruction begins before the end, one is read
  read_here : (n at : ℕ) → Begins image n at → at < length image → (i : Inst) × (size : ℕ) × (from_bytes image at ≡ reads i size)
  read_here n at p h = by (eq-or-lt_of_le (number_below image bytes s l to_end n at p))
    where
      l : ReadSoFar image s
      l = listed image s r

      by : (n ≡ length s.insts) ⊎ (n < length s.insts) → (i : Inst) × (size : ℕ) × (from_bytes image at ≡ reads i size)
      by (inl q) = absurd (omega (arith, one_place image n at s.at p (rw q l.ends)))
      by (inr g) =
          let x = l.each n g in
          (_, x.size, ap (from_bytes image) (sym (one_place image n x.at at x.begins p)) ∙ x.is)

  changed : (k b : ℕ) → Changes image k b → get_or w k 0 ≡ b
  unfolding type_of
  changed k b (dump n at p e) =
      let x = read_here n at p (dump_inside image at e) in
      let m = (read_in_lem image at _ _ x.2).moves in
      rw add-zero at ((alike n at _ _ p x.2).bytes_are 0 m) ∙ first_byte image at ∙ rw e
  changed k b (high_byte n at j p e h) =
      let x = read_here n at p (name_inside image at e) in
      let m = nine image at _ _ e x.2 in
      let lo = leb-true 7 j (and_left (leb 7 j) (leb j 8) h) in
      let hi = leb-true j 8 (and_right (leb 7 j) (leb j 8) h) in
      (alike n at _ _ p x.2).bytes_are j (omega arith) ∙ high_zero j (rw e) lo hi
    where
      high_zero : (j : ℕ) → is_name (form_of (get_or image at 0)) ≡ true → 7 ≤ j → j ≤ 8 → written_byte image at j ≡ 0
      high_zero zero q lo hi = absurd (omega arith)
      high_zero (suc j) q lo hi = zero_byte image at j q lo hi

  others : (k : ℕ) → k < length image → ((b : ℕ) → Changes image k b → ⊥) → get_or w k 0 ≡ get_or image k 0
  others k h f =
      let c = covered image k begin s r (begin_listed image) (omega arith) (omega arith) in
      let j = k - c.at in
      let z : c.at + j ≡ k = omega (arith, c.before) in
      let b = (alike c.index c.at c.inst c.size c.begins c.is).bytes_are j (omega (arith, c.before, c.behind)) in
      subst (λ (i : ℕ). get_or w i 0 ≡ get_or image i 0) z (b ∙ kept_byte image c.index c.at c.begins j (λ b x. f b (subst (λ (i : ℕ). Changes image i b) z x)))

  pub bytes_kept : BytesKept image w
  bytes_kept = record { changed = changed; others = others }
