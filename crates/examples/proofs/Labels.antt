-- Number 6: an image of more than 512 label definitions is refused with it. By induction, as the reading is too long to compute. Assumes nothing.
use Prim.Native.Nat.{ℕ, zero, suc, ◌+◌, ◌*◌, ◌-◌, ◌≤◌, ◌<◌}
use mathlib.Core.Path.{◌≡◌, refl, ap, ◌∙◌, sym}
use mathlib.Core.List.{List, [], ◌∷◌, ◌++◌}
use native.Mathlib.Nat.{zero-add, add-zero, suc-add}
use native.Mathlib.Omega.{arith}
use lib.ListN.{length, get_or, take, drop, length-append}
use lib.Seq.{drop-append-add, get_or-drop, drop-drop, slice_empty}
use borrow.Author.Tests.{lt-ltb, le-ltb, lt-leb, le-leb}
use Rattle.inst.specs.declared.Inst.{Inst}
use Rattle.inst.specs.Forms.{form_of, has_none, has_eight, has_one, has_name}
use Rattle.inst.specs.Records.{name_ok, named}
use Rattle.word.specs.Words.{little_endian, word}
use Rattle.inst_decode.specs.Decode.{reads, is_negative, read_name, read_operand, from_bytes}
use Rattle.inst.proofs.Laws as laws
use Rattle.machine.specs.declared.Label.{Label}
use Rattle.machine.specs.Limits.{inst_limit, label_records}
use Rattle.machine.specs.Load.{linked, Scan, stops, begin, scan_one, and_then, scan, rejects, finished, loads}

-- LABEL with the empty name
abbrev label : List ℕ
label = 21 ∷ 0 ∷ 0 ∷ 0 ∷ 0 ∷ 0 ∷ 0 ∷ 0 ∷ 0 ∷ []

pub definitions : ℕ → List ℕ
definitions zero = []
definitions (suc n) = label ++ definitions n

size : (n : ℕ) → length (definitions n) ≡ n * 9
unfolding definitions
size zero = refl
size (suc n) = let h = size n in omega arith

rest : (k n : ℕ) → drop (k * 9) (definitions (k + n)) ≡ definitions n
unfolding definitions
rest zero n = rw zero-add
rest (suc k) n =
    let e : suc k * 9 ≡ 9 + k * 9 = omega arith in
    rw (e, suc-add k n) (drop-append-add label (definitions (k + n)) (k * 9) ∙ rest k n)

module _ (n k : ℕ) (h : k < n) where
  behind : drop (k * 9) (definitions n) ≡ definitions (suc (n - k - 1))
  behind = let e : n ≡ k + suc (n - k - 1) = omega arith in ap (λ (x : ℕ). drop (k * 9) (definitions x)) e ∙ rest k (suc (n - k - 1))

  first : get_or (definitions n) (k * 9) 0 ≡ 21
  unfolding definitions
  first =
      let z : k * 9 + 0 ≡ k * 9 = omega arith in
      ap (λ (x : ℕ). get_or (definitions n) x 0) (sym z) ∙ sym (get_or-drop (k * 9) (definitions n) 0 0) ∙ ap (λ (l : List ℕ). get_or l 0 0) behind

  field : word (definitions n) (k * 9 + 1) ≡ 0
  unfolding definitions little_endian
  field =
      let from = k * 9 + 1 in
      let z : from + 8 - from ≡ 8 = omega arith in
      ap little_endian (sym (laws.slice_of from (from + 8) (definitions n)) ∙ ap (λ (i : ℕ). take i (drop from (definitions n))) z)
      ∙ ap (λ (l : List ℕ). little_endian (take 8 l)) (sym (drop-drop 1 (k * 9) (definitions n)) ∙ ap (drop 1) behind)

  read : from_bytes (definitions n) (k * 9) ≡ reads (named 21 (k * 9 + 9) 0) 9
  unfolding from_bytes read_operand read_name form_of has_none has_eight has_one has_name is_negative name_ok
  read =
      simp (size n, lt-leb (n * 9) (k * 9) (omega arith), first, le-ltb (n * 9) (k * 9 + 9) (omega arith), field, add-zero (k * 9 + 9), slice_empty (k * 9 + 9) (definitions n))

linked_size : (i : Inst) (target : ℕ) (ls : List Label) → 0 < length ls → length (linked i target ls) ≡ length ls + 1
unfolding linked
linked_size i target [] h = absurd (omega arith)
linked_size i target (l ∷ ls) h = simp length-append (omega arith)

module _ (n : ℕ) (over : 512 < n) where
  -- with room for `left` more
  too_many : (fuel left : ℕ) (s : Scan) → s.at ≡ length s.insts * 9 → length s.labels ≡ length s.insts + 1
      → length s.insts + left ≡ 512 → left < fuel → scan fuel (definitions n) s ≡ stops 6
  unfolding scan scan_one and_then
  too_many zero left s a e h l = absurd (omega arith)
  too_many (suc fuel) zero s a e h l =
      let k = length s.insts in
      simp (a, size n, lt-ltb (k * 9) (n * 9) (omega arith), read n k (omega arith), lt-leb inst_limit k (omega arith), le-leb label_records (length s.labels) (omega arith))
  too_many (suc fuel) (suc left) s a e h l =
      let k = length s.insts in
      simp (a, size n, lt-ltb (k * 9) (n * 9) (omega arith), read n k (omega arith), lt-leb inst_limit k (omega arith), lt-leb label_records (length s.labels) (omega arith))
      (too_many fuel left _ (simp length-append (omega arith)) (simp length-append (linked_size _ k s.labels (omega arith) ∙ ap (λ (x : ℕ). x + 1) e)) (simp length-append (omega arith)) (omega arith))

  pub refused : n ≤ 1820 → loads (definitions n) ≡ rejects 6
  unfolding loads finished
  refused h =
      let r = too_many (n * 9) 512 begin refl refl refl (omega arith) in
      simp (size n, le-ltb 16384 (n * 9) (omega arith), r)
