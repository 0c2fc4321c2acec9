-- One instruction: the bytes in which it is written, by the bytes from which it was read, and that it is read from them again. Assumes nothing.
use Prim.Native.Nat.{ℕ, zero, suc, ◌+◌, ◌-◌, ◌%◌, ◌^◌, ◌<◌, ◌≤◌}
use mathlib.Core.Path.{◌≡◌, refl, ap, sym, ◌∙◌, subst}
use mathlib.Core.Bool.{Bool, true, false, cond, ◌&&◌, and-false}
use mathlib.Core.List.{List, [], ◌∷◌, ◌++◌}
use native.Mathlib.Nat.{add-zero, add_assoc, not-suc-le-zero, mod-eq_of_lt}
use native.Mathlib.Omega.{arith}
use lib.Dec.{eqb, ltb, leb, lit<, lit≤, eqb-suc-zero}
use lib.ListN.{length, get_or, take, length-append, get_or-append}
use lib.Seq.{slice, length-slice, get_or-take, get_or-drop, get_or-append-add, ext_get_or}
use borrow.Author.Tests.{ltb-true, ltb-false, leb-false, le-ltb, le-leb, lt-leb, ne_eqb}
use Rattle.word.specs.Words.{little_endian, number_of, word}
use Rattle.word.proofs.Laws.{eight_from}
use Rattle.inst.specs.declared.Inst.{Inst}
use Rattle.inst.specs.Forms.{Form, none, eight, one, name, undefined, form_of, within}
use Rattle.inst.specs.Records.{Bytes, plain, named, name_ok, part}
use Rattle.inst.proofs.Laws.{by_test}
use Rattle.inst.proofs.Table.{entry}
use Rattle.inst_decode.specs.Decode.{Answer, refused, reads, type_of, magnitude, is_negative, read_name, read_operand, from_bytes}
use Rattle.inst_decode.proofs.Facts.{read_as, not_one}
use Rattle.inst_encode.specs.Encode.{bytes_of, operand_bytes, as_bytes}
use Rattle.rewritten.proofs.Numbers.{eight_back, low_six, low_six_small}

-- parts of lists whose elements are the same
slice_at : (l : List ℕ) (a n k : ℕ) → k < n → get_or (slice a (a + n) l) k 0 ≡ get_or l (a + k) 0
slice_at l a n k h = get_or-drop a (take (a + n) l) k 0 ∙ get_or-take (a + n) l (a + k) 0 (omega arith)

slice_alike : (l m : List ℕ) (a n : ℕ) → a + n ≤ length l → a + n ≤ length m → ((k : ℕ) → k < n → get_or l (a + k) 0 ≡ get_or m (a + k) 0) → slice a (a + n) l ≡ slice a (a + n) m
slice_alike l m a n h g f =
    let p : length (slice a (a + n) l) ≡ n = length-slice a (a + n) l h ∙ omega arith in
    let q : length (slice a (a + n) m) ≡ n = length-slice a (a + n) m g ∙ omega arith in
    ext_get_or 0 _ _ (p ∙ sym q) (λ k b. let c : k < n = omega arith in slice_at l a n k c ∙ f k c ∙ sym (slice_at m a n k c))

-- ---- the bytes

abbrev pub is_name : Form → Bool
is_name none = false
is_name eight = false
is_name one = false
is_name name = true
is_name undefined = false

-- byte j of the instruction that begins at `at`, as it is written
unfoldable pub written_byte : List ℕ → ℕ → ℕ → ℕ
written_byte image at j =
    let op = get_or image at 0 in
    cond (eqb j 0) (type_of op) (cond (is_name (form_of op) && within 7 8 j) 0 (get_or image (at + j) 0))

module _ (image : List ℕ) (at : ℕ) where
  abbrev op : ℕ
  op = get_or image at 0

  pub first_byte : written_byte image at 0 ≡ type_of op
  unfolding written_byte
  first_byte = refl

  -- behind the first byte, where there is no name
  plain_byte : (j : ℕ) → is_name (form_of op) ≡ false → written_byte image at (suc j) ≡ get_or image (at + suc j) 0
  unfolding written_byte
  plain_byte j e = rw (eqb-suc-zero, e)

  -- where there is one
  low_byte : (j : ℕ) → suc j < 7 → written_byte image at (suc j) ≡ get_or image (at + suc j) 0
  unfolding written_byte
  low_byte j h = rw (eqb-suc-zero, lt-leb 7 (suc j) h, and-false)

  pub zero_byte : (j : ℕ) → is_name (form_of op) ≡ true → 7 ≤ suc j → suc j ≤ 8 → written_byte image at (suc j) ≡ 0
  unfolding written_byte
  zero_byte j e h g = rw (eqb-suc-zero, e, le-leb 7 (suc j) h, le-leb (suc j) 8 g)

  name_byte : (j : ℕ) → written_byte image at (9 + j) ≡ get_or image (at + (9 + j)) 0
  unfolding written_byte
  name_byte j =
      let a : eqb (9 + j) 0 ≡ false = ne_eqb (9 + j) 0 (λ e. omega arith) in
      rw (a, lt-leb (9 + j) 8 (omega arith), and-false, and-false)

-- an instruction is written in these bytes
pub record BytesAre (image : List ℕ) (at : ℕ) (bs : List ℕ) (size : ℕ) : Type 0 where
  pub size_is : length bs ≡ size
  pub bytes_are : (j : ℕ) → j < size → get_or bs j 0 ≡ written_byte image at j

-- another image has them at the same place
pub record Alike (image w : List ℕ) (at size : ℕ) : Type 0 where
  pub inside : at + size ≤ length w
  pub bytes_are : (j : ℕ) → j < size → get_or w (at + j) 0 ≡ written_byte image at j

-- what was read is written in as many bytes, and read from them again, with the same name
pub record ReadsAgain (image : List ℕ) (at : ℕ) (i : Inst) (size : ℕ) : Type 0 where
  pub written : BytesAre image at (as_bytes image i) size
  pub back : (w : List ℕ) → Alike image w at size → from_bytes w at ≡ reads i size
  pub named : (w : List ℕ) → Alike image w at size → part w i.start i.len ≡ part image i.start i.len

abbrev Again : List ℕ → ℕ → Answer → Type 0
Again image at (refused n) = Unit {0}
Again image at (reads i size) = ReadsAgain image at i size

-- the eight bytes behind the first
module _ (l : List ℕ) (at : ℕ) where
  abbrev f : ℕ → ℕ
  f k = get_or l (at + suc k) 0

  word_is : at + 9 ≤ length l → number_of (f 0) (f 1) (f 2) (f 3) (f 4) (f 5) (f 6) (f 7) ≡ word l (at + 1)
  word_is h = simp add_assoc (simp add_assoc at (eight_from l (at + 1) (omega arith)))

module _ (image : List ℕ) (at : ℕ) (bytes : Bytes image) where
  abbrev g : ℕ → ℕ
  g = f image at

  below : (k : ℕ) → g k < 256
  below k = bytes (at + suc k)

  -- a cell or a depth
  eight_bytes : at + 9 ≤ length image → bytes_of 8 (word image (at + 1)) ≡ g 0 ∷ g 1 ∷ g 2 ∷ g 3 ∷ g 4 ∷ g 5 ∷ g 6 ∷ g 7 ∷ []
  eight_bytes h =
      ap (bytes_of 8) (sym (word_is image at h))
      ∙ eight_back (g 0) (g 1) (g 2) (g 3) (g 4) (g 5) (below 0) (below 1) (below 2) (below 3) (below 4) (below 5) (g 6) (g 7) (below 6) (below 7)

  -- a length
  len_is : at + 9 ≤ length image → magnitude (word image (at + 1)) ≡ number_of (g 0) (g 1) (g 2) (g 3) (g 4) (g 5) 0 0
  len_is h =
      ap (λ (n : ℕ). magnitude n) (sym (word_is image at h))
      ∙ low_six (g 0) (g 1) (g 2) (g 3) (g 4) (g 5) (below 0) (below 1) (below 2) (below 3) (below 4) (below 5) (g 6) (g 7)

  len_bytes : at + 9 ≤ length image → bytes_of 8 (magnitude (word image (at + 1))) ≡ g 0 ∷ g 1 ∷ g 2 ∷ g 3 ∷ g 4 ∷ g 5 ∷ 0 ∷ 0 ∷ []
  len_bytes h = ap (bytes_of 8) (len_is h) ∙ eight_back (g 0) (g 1) (g 2) (g 3) (g 4) (g 5) (below 0) (below 1) (below 2) (below 3) (below 4) (below 5) 0 0 (lit< tt) (lit< tt)

  -- ---- each form's bytes

  abbrev o : ℕ
  o = get_or image at 0

  first_kept : eqb o 27 ≡ false → o ≡ written_byte image at 0
  unfolding written_byte type_of
  first_kept e = rw e

  none_written : eqb o 27 ≡ false → BytesAre image at (o ∷ []) 1
  none_written e = record { size_is = refl; bytes_are = by }
    where
      by : (j : ℕ) → j < 1 → get_or (o ∷ []) j 0 ≡ written_byte image at j
      by zero h = first_kept e
      by (suc j) h = absurd (omega arith)

  eight_written : eqb o 27 ≡ false → is_name (form_of o) ≡ false → at + 9 ≤ length image → BytesAre image at (o ∷ bytes_of 8 (word image (at + 1))) 9
  eight_written e n h = record { size_is = rw (eight_bytes h); bytes_are = by }
    where
      by : (j : ℕ) → j < 9 → get_or (o ∷ bytes_of 8 (word image (at + 1))) j 0 ≡ written_byte image at j
      by zero l = first_kept e
      by (suc j) l = rw (eight_bytes h) (entry 0 g 8 j (omega arith) ∙ sym (plain_byte image at j n))

  one_written : is_name (form_of o) ≡ false → BytesAre image at (type_of o ∷ bytes_of 1 (get_or image (at + 1) 0)) 2
  unfolding bytes_of
  one_written n = record { size_is = refl; bytes_are = by }
    where
      by : (j : ℕ) → j < 2 → get_or (type_of o ∷ bytes_of 1 (get_or image (at + 1) 0)) j 0 ≡ written_byte image at j
      by zero l = sym (first_byte image at)
      by (suc zero) l = mod-eq_of_lt (below 0) ∙ sym (plain_byte image at 0 n)
      by (suc (suc j)) l = absurd (omega arith)

  -- a name's length field
  abbrev field : List ℕ
  field = g 0 ∷ g 1 ∷ g 2 ∷ g 3 ∷ g 4 ∷ g 5 ∷ 0 ∷ 0 ∷ []

  field_written : is_name (form_of o) ≡ true → (j : ℕ) → j < 8 → get_or field j 0 ≡ written_byte image at (suc j)
  field_written n j h =
      entry 0 (λ k. cond (ltb k 6) (g k) 0) 8 j h
      ∙ by_test (λ b. b ≡ written_byte image at (suc j)) (ltb j 6) (g j) 0
      (λ l. sym (low_byte image at j (omega (arith, ltb-true j 6 l))))
      (λ l. sym (zero_byte image at j n (omega (arith, ltb-false j 6 l)) (omega arith)))

  name_written : eqb o 27 ≡ false → is_name (form_of o) ≡ true → (len : ℕ) → at + 9 + len ≤ length image
      → BytesAre image at (o ∷ (field ++ part image (at + 9) len)) (9 + len)
  name_written e n len l = record { size_is = size; bytes_are = λ j k. by j k _ refl }
    where
      bs : List ℕ
      bs = o ∷ (field ++ part image (at + 9) len)

      size : length bs ≡ 9 + len
      size = rw (length-append, length-slice (at + 9) (at + 9 + len) image l) (omega arith)

      far : (k : ℕ) → k < len → get_or bs (9 + k) 0 ≡ written_byte image at (9 + k)
      far k h = get_or-append-add (o ∷ field) (part image (at + 9) len) k 0 ∙ slice_at image (at + 9) len k h ∙ rw add_assoc (sym (name_byte image at k))

      by : (j : ℕ) → j < 9 + len → (b : Bool) → ltb j 9 ≡ b → get_or bs j 0 ≡ written_byte image at j
      by zero k b z = first_kept e
      by (suc j) k true z =
          let m : j < 8 = omega (arith, ltb-true (suc j) 9 z) in
          get_or-append field (part image (at + 9) len) 0 j m ∙ field_written n j m
      by (suc j) k false z =
          let m = ltb-false (suc j) 9 z in
          let r : 9 + (suc j - 9) ≡ suc j = omega arith in
          subst (λ (i : ℕ). get_or bs i 0 ≡ written_byte image at i) r (far (suc j - 9) (omega arith))

-- ---- each form read again

module _ (w : List ℕ) (at : ℕ) where
  -- the first byte and its form choose
  pub reads_by : (o : ℕ) (f : Form) → at < length w → get_or w at 0 ≡ o → form_of o ≡ f → from_bytes w at ≡ read_operand w at o f
  unfolding from_bytes
  reads_by o f h e q = rw (lt-leb (length w) at h, e, q)

module _ (image w : List ℕ) (at size : ℕ) (a : Alike image w at size) (some : 0 < size) where
  first_alike : get_or w at 0 ≡ type_of (get_or image at 0)
  first_alike = rw add-zero at (a.bytes_are 0 some) ∙ first_byte image at

  first_same : eqb (get_or image at 0) 27 ≡ false → get_or w at 0 ≡ get_or image at 0
  unfolding type_of
  first_same e = first_alike ∙ rw e

none_again : (image : List ℕ) (at : ℕ) (w : List ℕ) → Alike image w at 1 → (o : ℕ) → get_or image at 0 ≡ o → form_of o ≡ none → eqb o 27 ≡ false
    → from_bytes w at ≡ reads (plain o 0) 1
unfolding read_operand
none_again image at w a o q e n = reads_by w at o none (omega (arith, a.inside)) (first_same image w at 1 a (lit< tt) (rw q n) ∙ q) e

eight_again : (image : List ℕ) (at : ℕ) (w : List ℕ) → at + 9 ≤ length image → Alike image w at 9 → (o : ℕ) → get_or image at 0 ≡ o → form_of o ≡ eight → eqb o 27 ≡ false
    → from_bytes w at ≡ reads (plain o (word image (at + 1))) 9
unfolding read_operand
eight_again image at w h a o q e n =
    let m : is_name (form_of (get_or image at 0)) ≡ false = rw (q, e) in
    let same : word w (at + 1) ≡ word image (at + 1) =
    ap little_endian (slice_alike w image (at + 1) 8 (omega (arith, a.inside)) (omega arith)
    (λ k l. let z : at + 1 + k ≡ at + suc k = omega arith in rw z (a.bytes_are (suc k) (omega arith) ∙ plain_byte image at k m))) in
    reads_by w at o eight (omega (arith, a.inside)) (first_same image w at 9 a (lit< tt) (rw q n) ∙ q) e
    ∙ rw (le-ltb (length w) (at + 9) a.inside, same)

type_again : (o : ℕ) → type_of (type_of o) ≡ type_of o
unfolding type_of
type_again o = by_test (λ t. cond (eqb t 27) 46 t ≡ t) (eqb o 27) 46 o (λ _. refl) (λ e. rw e)

one_again : (image : List ℕ) (at : ℕ) (w : List ℕ) → Alike image w at 2 → (o : ℕ) → get_or image at 0 ≡ o → form_of o ≡ one
    → from_bytes w at ≡ reads (plain (type_of o) (get_or image (at + 1) 0)) 2
unfolding read_operand
one_again image at w a o q e =
    let m : is_name (form_of (get_or image at 0)) ≡ false = rw (q, e) in
    let stream : get_or w (at + 1) 0 ≡ get_or image (at + 1) 0 = a.bytes_are 1 (lit< tt) ∙ plain_byte image at 0 m in
    reads_by w at (type_of o) one (omega (arith, a.inside)) (first_alike image w at 2 a (lit< tt) ∙ ap type_of q) (read_as o e).0
    ∙ rw (le-ltb (length w) (at + 2) a.inside, type_again o, stream)

-- a length of six bytes is read as it is written
small_len : (image : List ℕ) (at o n : ℕ) → n < 2 ^ 48 → at + 9 + n ≤ length image → name_ok (part image (at + 9) n) ≡ true → read_name image at o n ≡ reads (named o (at + 9) n) (9 + n)
unfolding read_name is_negative
small_len image at o n h l k =
    let z : leb (2 ^ 63) n ≡ false = lt-leb (2 ^ 63) n (omega arith) in
    let m : n % 2 ^ 48 ≡ n = mod-eq_of_lt h in
    rw (z, m, le-ltb (length image) (at + 9 + n) l, k)

module _ (image : List ℕ) (at : ℕ) (bytes : Bytes image) (w : List ℕ) (h : at + 9 ≤ length image) where
  abbrev len : ℕ
  len = magnitude (word image (at + 1))

  module _ (a : Alike image w at (9 + len)) (n : is_name (form_of (get_or image at 0)) ≡ true) where
    low_alike : (k : ℕ) → k < 6 → f w at k ≡ g image at bytes k
    low_alike k l = a.bytes_are (suc k) (omega arith) ∙ low_byte image at k (omega arith)

    high_alike : (k : ℕ) → 6 ≤ k → k < 8 → f w at k ≡ 0
    high_alike k l m = a.bytes_are (suc k) (omega arith) ∙ zero_byte image at k n (omega arith) (omega arith)

    field_again : word w (at + 1) ≡ len
    field_again =
        sym (word_is w at (omega (arith, a.inside)))
        ∙ rw (low_alike 0 (lit< tt), low_alike 1 (lit< tt), low_alike 2 (lit< tt), low_alike 3 (lit< tt), low_alike 4 (lit< tt), low_alike 5 (lit< tt), high_alike 6 (lit≤ tt) (lit< tt), high_alike 7 (lit≤ tt) (lit< tt))
        (sym (len_is image at bytes h))

    name_same : at + 9 + len ≤ length image → part w (at + 9) len ≡ part image (at + 9) len
    name_same l =
        slice_alike w image (at + 9) len (omega (arith, a.inside)) l
        (λ k m. let z : at + 9 + k ≡ at + (9 + k) = omega arith in rw z (a.bytes_are (9 + k) (omega arith) ∙ name_byte image at k))

  len_small : len < 2 ^ 48
  len_small = rw (len_is image at bytes h) (low_six_small (g image at bytes 0) (g image at bytes 1) (g image at bytes 2) (g image at bytes 3) (g image at bytes 4) (g image at bytes 5)
      (below image at bytes 0) (below image at bytes 1) (below image at bytes 2) (below image at bytes 3) (below image at bytes 4) (below image at bytes 5))

  name_again : Alike image w at (9 + len) → (o : ℕ) → get_or image at 0 ≡ o → form_of o ≡ name → eqb o 27 ≡ false → at + 9 + len ≤ length image → name_ok (part image (at + 9) len) ≡ true
      → from_bytes w at ≡ reads (named o (at + 9) len) (9 + len)
  unfolding read_operand
  name_again a o q e n l k =
      let m : is_name (form_of (get_or image at 0)) ≡ true = rw (q, e) in
      let i : at + 9 + len ≤ length w = omega (arith, a.inside) in
      reads_by w at o name (omega arith) (first_same image w at (9 + len) a (omega arith) (rw q n) ∙ q) e
      ∙ rw (le-ltb (length w) (at + 9) (omega arith), field_again a m)
      (small_len w at o len len_small i (rw (name_same a m l) k))

-- ---- together

module _ (image : List ℕ) (at : ℕ) (bytes : Bytes image) where
  abbrev first : ℕ
  first = get_or image at 0

  pub nameless : (w : List ℕ) → part w 0 0 ≡ part image 0 0
  nameless w = slice_alike w image 0 0 (omega arith) (omega arith) (λ k h. absurd (not-suc-le-zero h))

  named_again : form_of first ≡ name → at + 9 ≤ length image → Again image at (read_name image at first (word image (at + 1)))
  unfolding read_name as_bytes operand_bytes
  named_again e h =
      let len = magnitude (word image (at + 1)) in
      let n = not_one first name e (λ z. cc) in
      let m : is_name (form_of first) ≡ true = rw e in
      by_test (Again image at) (is_negative (word image (at + 1))) _ _ (λ _. tt)
      (λ _. by_test (Again image at) (ltb (length image) (at + 9 + len)) _ _ (λ _. tt)
      (λ k. let l = ltb-false (length image) (at + 9 + len) k in
      by_test (Again image at) (name_ok (part image (at + 9) len)) _ _
      (λ ok. record {
        written = rw (e, len_bytes image at bytes h) (name_written image at bytes n m len l);
        back = λ w a. name_again image at bytes w h a first refl e n l ok;
        named = λ w a. name_same image at bytes w h a m l;
      })
      (λ _. tt)))

  operand_again : (f : Form) → form_of first ≡ f → at < length image → Again image at (read_operand image at first f)
  unfolding read_operand as_bytes operand_bytes
  operand_again none e h =
      let n = not_one first none e (λ z. cc) in
      record { written = rw e (none_written image at bytes n); back = λ w a. none_again image at w a first refl e n; named = λ w a. nameless w }
  operand_again eight e h =
      let n = not_one first eight e (λ z. cc) in
      by_test (Again image at) (ltb (length image) (at + 9)) _ _ (λ _. tt)
      (λ k. let l = ltb-false (length image) (at + 9) k in
      record { written = rw e (eight_written image at bytes n (rw e) l); back = λ w a. eight_again image at w l a first refl e n; named = λ w a. nameless w })
  operand_again one e h =
      by_test (Again image at) (ltb (length image) (at + 2)) _ _ (λ _. tt)
      (λ k. record { written = rw (read_as first e).0 (one_written image at bytes (rw e)); back = λ w a. one_again image at w a first refl e; named = λ w a. nameless w })
  operand_again name e h =
      by_test (Again image at) (ltb (length image) (at + 9)) _ _ (λ _. tt) (λ k. named_again e (ltb-false _ _ k))
  operand_again undefined e h = tt

  pub reads_again : (i : Inst) (size : ℕ) → from_bytes image at ≡ reads i size → ReadsAgain image at i size
  unfolding from_bytes
  reads_again i size e =
      subst (Again image at) e
      (by_test (Again image at) (leb (length image) at) _ _ (λ _. tt) (λ k. operand_again (form_of first) refl (leb-false _ _ k)))
