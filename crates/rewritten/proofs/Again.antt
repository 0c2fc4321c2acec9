-- An image that has every instruction of another one at its place is scanned alike, with the same names. Assumes nothing.
use mathlib.Core.Bool.{cond}
use Prim.Native.Nat.{ℕ, suc, ◌<◌}
use mathlib.Core.Path.{◌≡◌, refl, ap, subst}
use mathlib.Core.List.{List, [], ◌∷◌, ◌++◌}
use native.Mathlib.Omega.{arith}
use lib.ListN.{length, get_or, drop}
use Rattle.inst.specs.declared.Inst.{Inst}
use Rattle.inst.specs.Forms.{Form, none, eight, one, name, undefined, form_of}
use Rattle.inst.specs.Records.{Bytes, same}
use Rattle.inst_decode.specs.Decode.{reads, from_bytes}
use Rattle.inst_decode.proofs.Facts.{read_in_lem}
use Rattle.inst_encode.specs.Encode.{bytes_of, operand_bytes, as_bytes}
use Rattle.machine.specs.declared.Label.{Label}
use Rattle.machine.specs.Load.{halt, name_of, linked, Scan, Scanned, stops, goes, begin, scan_one, Entry, no_entry, entry, last_of}
use Rattle.machine.specs.Encode.{bytes_of_all}
use Rattle.machine.proofs.Loads.{one_case}
use Rattle.rewritten.specs.Rewritten.{Begins, first, next, SameName}
use Rattle.rewritten.proofs.Instructions.{Alike, reads_again}
use Rattle.rewritten.proofs.Places.{ReadAt, ReadSoFar}
use Rattle.rewritten.proofs.Scans.{ReadsOne, Scans, done, more, along, begin_listed, step_listed}

-- ---- names

-- a record with the same name has the same bytes
operand_same : (image w : List ℕ) (i : Inst) (f : Form) → SameName image w i → operand_bytes w i f ≡ operand_bytes image i f
unfolding operand_bytes
operand_same image w i none e = refl
operand_same image w i eight e = refl
operand_same image w i one e = refl
operand_same image w i name e = ap (λ (l : List ℕ). bytes_of 8 i.len ++ l) e
operand_same image w i undefined e = refl

pub bytes_same : (image w : List ℕ) (is : List Inst) → ((k : ℕ) → k < length is → SameName image w (get_or is k halt)) → bytes_of_all w is ≡ bytes_of_all image is
unfolding bytes_of_all as_bytes
bytes_same image w [] f = refl
bytes_same image w (i ∷ is) f =
    let a = operand_same image w i (form_of i.typ) (f 0 (omega arith)) in
    let b = bytes_same image w is (λ k h. f (suc k) (omega arith)) in
    rw (a, b)

-- the labels have the same names
unfoldable SameNames : List ℕ → List ℕ → List Label → Type 0
SameNames image w [] = Unit {0}
SameNames image w (l ∷ ls) = (name_of w l ≡ name_of image l) × SameNames image w ls

names_snoc : (image w : List ℕ) (ls : List Label) (l : Label) → SameNames image w ls → name_of w l ≡ name_of image l → SameNames image w (ls ++ (l ∷ []))
unfolding SameNames
names_snoc image w [] l h e = (e, tt)
names_snoc image w (x ∷ ls) l h e = (h.0, names_snoc image w ls l h.1 e)

names_linked : (image w : List ℕ) (i : Inst) (n : ℕ) (labels : List Label) → SameNames image w (drop 1 labels) → SameName image w i → SameNames image w (drop 1 (linked i n labels))
unfolding linked
names_linked image w i n [] h e = h
names_linked image w i n (x ∷ ls) h e = names_snoc image w ls (record { start = i.start; len = i.len; target = n; next = x.next }) h e

-- so a name's last definition is the same
last_same : (image w wanted : List ℕ) (e : Entry) (ls : List Label) → SameNames image w ls → last_of w wanted e ls ≡ last_of image wanted e ls
unfolding SameNames last_of
last_same image w wanted e [] h = refl
last_same image w wanted e (l ∷ ls) h = rw h.0 (last_same image w wanted (cond (same wanted (name_of image l)) (entry l.target) e) ls h.1)

module _ (image w : List ℕ) (bytes : Bytes image)
    (alike : (k at : ℕ) (i : Inst) (size : ℕ) → Begins image k at → from_bytes image at ≡ reads i size → Alike image w at size) where
  -- ---- places

  pub begins_too : (k at : ℕ) → Begins image k at → Begins w k at
  begins_too k at first = first
  begins_too k at (next m a size i p e) = next m a size i (begins_too m a p) ((reads_again image a bytes i size e).back w (alike m a i size p e))

  pub names_alike : (k : ℕ) (i : Inst) → ReadAt image k i → SameName image w i
  names_alike k i r = (reads_again image r.at bytes i r.size r.is).named w (alike k r.at i r.size r.begins r.is)

  -- ---- scans

  abbrev Followed : Scan → Type 0
  Followed s = ReadSoFar image s × SameNames image w (drop 1 s.labels)

  unfoldable NamesScanned : Scanned → Type 0
  NamesScanned (stops n) = Unit {0}
  NamesScanned (goes t) = SameNames image w (drop 1 t.labels)

  names_one : (s t : Scan) (i : Inst) (size : ℕ) → SameNames image w (drop 1 s.labels) → SameName image w i → scan_one s (reads i size) ≡ goes t
      → SameNames image w (drop 1 t.labels)
  unfolding NamesScanned
  names_one s t i size h e q =
      subst NamesScanned q
      (one_case NamesScanned s i size tt tt (λ _ _. names_linked image w i (length s.insts) s.labels h e) (λ _. h))

  followed_next : (s t : Scan) → ReadsOne image s t → Followed s → Followed t
  followed_next s t q h =
      let i = q.inst in
      let r : ReadAt image (length s.insts) i = record { at = s.at; size = q.size; begins = h.0.ends; is = q.is } in
      (step_listed image s t q h.0, names_one s t i q.size h.1 (names_alike _ i r) q.goes_on)

  begin_followed : Followed begin
  unfolding SameNames
  begin_followed = (begin_listed image, tt)

  followed : (u : Scan) → Scans image begin u → Followed u
  followed u r = along image Followed followed_next begin u r begin_followed

  pub last_too : (u : Scan) (wanted : List ℕ) → Scans image begin u → last_of w wanted no_entry (drop 1 u.labels) ≡ last_of image wanted no_entry (drop 1 u.labels)
  last_too u wanted r = last_same image w wanted no_entry _ (followed u r).1

  step_too : (s t : Scan) → Followed s → ReadsOne image s t → ReadsOne w s t
  step_too s t h q =
      let a = alike (length s.insts) s.at q.inst q.size h.0.ends q.is in
      let m = (read_in_lem image s.at q.inst q.size q.is).moves in
      record {
        inst = q.inst;
        size = q.size;
        inside = omega (arith, a.inside);
        is = (reads_again image s.at bytes q.inst q.size q.is).back w a;
        goes_on = q.goes_on;
      }

  scans_from : (s u : Scan) → Followed s → Scans image s u → Scans w s u
  scans_from s u h (done _) = done s
  scans_from s u h (more _ t _ q r) = more s t u (step_too s t h q) (scans_from t u (followed_next s t q h) r)

  pub scans_too : (u : Scan) → Scans image begin u → Scans w begin u
  scans_too u r = scans_from begin u begin_followed r
