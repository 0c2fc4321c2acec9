-- Request b of every accepted image. Assumes nothing.
use Prim.Native.Nat.{ℕ, zero, suc, ◌+◌, ◌-◌, ◌^◌, ◌<◌, ◌≤◌}
use mathlib.Core.Path.{◌≡◌, refl, ap, sym, ◌∙◌, subst}
use mathlib.Core.Logic.{inl, inr}
use mathlib.Core.Bool.{Bool, true, false}
use mathlib.Core.List.{List, [], ◌∷◌, ◌++◌, append-nil}
use native.Mathlib.Nat.{add-zero}
use native.Mathlib.Numerals.{add-one}
use native.Mathlib.Omega.{arith}
use lib.Dec.{ltb, leb, lit<}
use lib.ListN.{length, get_or, drop, length-append, get_or-append}
use lib.Seq.{get_or_at, get_or-append-add}
use borrow.Author.Tests.{ltb-true, ltb-false, leb-true, leb-false, lt-ltb}
use Rattle.inst.specs.declared.Inst.{Inst}
use Rattle.inst.specs.Records.{Bytes}
use Rattle.inst.proofs.Laws.{by_test, never}
use Rattle.inst_decode.specs.Decode.{reads, type_of, from_bytes}
use Rattle.inst_encode.specs.Encode.{as_bytes}
use Rattle.machine.specs.declared.Label.{Label}
use Rattle.machine.specs.Limits.{image_limit, inst_limit}
use Rattle.machine.specs.Load.{start_name, halt, Scan, begin, no_entry, entry, last_of, closed, Loaded, rejects, accepts, loads, count_of}
use Rattle.machine.specs.Encode.{bytes_of_all}
use Rattle.machine.specs.Statements.{Labels, DefinesLast}
use Rattle.machine.proofs.Loads.{Parsed, parsed, loads_as, enough, load_accepts}
use Rattle.machine.proofs.Fuel.{reads_to_end}
use Rattle.machine.proofs.Valid.{valid, closed_halts}
use Rattle.rewritten.specs.Rewritten.{Begins, EndsWithHalt, RoomIs, own_length, one_more, RecordsAre, SameName, loaded_again, Rewritten, ImagesAreRewritten}
use Rattle.rewritten.proofs.Instructions.{Alike, first_byte, nameless}
use Rattle.rewritten.proofs.Places.{begins_inside, ReadSoFar}
use Rattle.rewritten.proofs.Scans.{Scans, scans, scan_to_end, listed, joined}
use Rattle.rewritten.proofs.Written.{number_at_end, inst_is, size_is, alike}
use Rattle.rewritten.proofs.Again.{bytes_same, begins_too, names_alike, last_too, scans_too}
use Rattle.rewritten.proofs.Ends.{reads_halt, ends_with, last_halts, Tail, tail_of, appended, halt_bytes, closing, takes_halt}
use Rattle.rewritten.proofs.Kept.{inst_bytes, all_bytes, bytes_kept}
use Rattle.rewritten.proofs.Answers.{writes}

type_halt : (op : ℕ) → op ≡ 69 → type_of op ≡ 69
unfolding type_of
type_halt op e = rw e

closed_again : (is : List Inst) → closed (closed is) ≡ closed is
unfolding closed
closed_again is = rw (closed_halts is)

-- behind the image's own instructions stands HALT alone
one_halt : (m : ℕ) → get_or (halt ∷ []) m halt ≡ halt
one_halt zero = refl
one_halt (suc m) = refl

tail_halts : (is t : List Inst) (k : ℕ) → Tail is t → length is ≤ k → get_or (is ++ t) k halt ≡ halt
tail_halts is t k x h =
    let z : length is + (k - length is) ≡ k = omega arith in
    ap (λ (n : ℕ). get_or (is ++ t) n halt) (sym z) ∙ get_or-append-add is t (k - length is) halt ∙ by x
  where
    by : Tail is t → get_or t (k - length is) halt ≡ halt
    by (inl x) = rw x.1
    by (inr x) = rw x.1 (one_halt (k - length is))

-- an accepted image, its scan, and what was appended to its instructions
module _ (image : List ℕ) (bytes : Bytes image) (l : Loaded) (p : Parsed image l) (t : List Inst) (closed_is : closed p.last.insts ≡ p.last.insts ++ t)
    (tail : Tail p.last.insts t) where
  abbrev s : Scan
  s = p.last

  abbrev is : List Inst
  is = s.insts

  r : Scans image begin s
  r = scans image (length image) begin s p.scanned

  ls : ReadSoFar image s
  ls = listed image s r

  to_end : s.at ≡ length image
  to_end = omega (arith, reads_to_end image s p.scanned, begins_inside image _ _ ls.ends)

  insts_are : l.insts ≡ is ++ t
  insts_are = p.passes.insts_are ∙ closed_is

  abbrev w : List ℕ
  w = bytes_of_all image (is ++ t)

  same : (k at : ℕ) (i : Inst) (size : ℕ) → Begins image k at → from_bytes image at ≡ reads i size → Alike image w at size
  same = alike image bytes s ls to_end t

  -- ---- the room

  w_nothing : t ≡ [] → length w ≡ length image
  w_nothing e = ap (λ (x : List Inst). length (bytes_of_all image (is ++ x))) e ∙ ap (λ (x : List Inst). length (bytes_of_all image x)) (append-nil is) ∙ size_is image bytes s ls to_end

  w_halt : t ≡ halt ∷ [] → w ≡ bytes_of_all image is ++ (69 ∷ [])
  w_halt e = ap (λ (x : List Inst). bytes_of_all image (is ++ x)) e ∙ appended image is

  w_longer : t ≡ halt ∷ [] → length w ≡ suc (length image)
  w_longer e = ap length (w_halt e) ∙ length-append (bytes_of_all image is) (69 ∷ []) ∙ ap (λ (n : ℕ). n + 1) (size_is image bytes s ls to_end) ∙ add-one (length image)

  last_byte : t ≡ halt ∷ [] → get_or w (length image) 0 ≡ 69
  last_byte e = ap (λ (x : List ℕ). get_or x (length image) 0) (w_halt e) ∙ get_or_at (bytes_of_all image is) 69 [] 0 (length image) (size_is image bytes s ls to_end)

  count_is : count_of l ≡ length is + length t
  count_is = ap length insts_are ∙ length-append is t

  room : RoomIs image (count_of l) (length w)
  room = by tail
    where
      by : Tail is t → RoomIs image (count_of l) (length w)
      by (inl x) =
          let n : count_of l ≡ length is = count_is ∙ ap (λ (y : List Inst). length is + length y) x.1 ∙ add-zero (length is) in
          subst (RoomIs image (count_of l)) (sym (w_nothing x.1)) (own_length (ends_with image bytes s ls to_end x.0) (rw (n, ← to_end) ls.ends))
      by (inr x) =
          let n : count_of l ≡ suc (length is) = count_is ∙ ap (λ (y : List Inst). length is + length y) x.1 ∙ add-one (length is) in
          subst (RoomIs image (count_of l)) (sym (w_longer x.1))
          (one_more (λ e. never (sym x.0 ∙ last_halts image bytes s ls to_end e)) (length is) (rw (← to_end) ls.ends) n)

  longest_is : length w ≤ suc (length image)
  longest_is = by tail
    where
      by : Tail is t → length w ≤ suc (length image)
      by (inl x) = omega (arith, w_nothing x.1)
      by (inr x) = omega (arith, w_longer x.1)

  too_long : image_limit < length w → (length image ≡ image_limit) × (EndsWithHalt image → ⊥)
  too_long h = by tail
    where
      by : Tail is t → (length image ≡ image_limit) × (EndsWithHalt image → ⊥)
      by (inl x) = absurd (omega (arith, w_nothing x.1, p.short))
      by (inr x) = (omega (arith, w_longer x.1, p.short), λ e. never (sym x.0 ∙ last_halts image bytes s ls to_end e))

  longest : length image ≡ image_limit → (EndsWithHalt image → ⊥) → length w ≡ suc image_limit
  longest h f = by tail
    where
      by : Tail is t → length w ≡ suc image_limit
      by (inl x) = absurd (f (ends_with image bytes s ls to_end x.0))
      by (inr x) = w_longer x.1 ∙ ap suc h

  -- ---- the same instructions

  end_halts : EndsWithHalt w
  end_halts = by tail
    where
      by : Tail is t → EndsWithHalt w
      by (inl x) =
          let e = ends_with image bytes s ls to_end x.0 in
          let a = same e.index e.at halt 1 e.begins (reads_halt image e.at (omega (arith, e.is_last)) e.is_halt_lem) in
          record {
            index = e.index;
            at = e.at;
            begins = begins_too image w bytes same _ _ e.begins;
            is_halt_lem = rw add-zero at (a.bytes_are 0 (lit< tt)) ∙ first_byte image e.at ∙ type_halt _ e.is_halt_lem;
            is_last = e.is_last ∙ sym (w_nothing x.1);
          }
      by (inr x) =
          record {
            index = length is;
            at = length image;
            begins = begins_too image w bytes same _ _ (rw (← to_end) ls.ends);
            is_halt_lem = last_byte x.1;
            is_last = sym (w_longer x.1);
          }

  scans_again : (v : Scan) × Scans w begin v × (v.at ≡ length w) × (v.insts ≡ is ++ t) × (v.labels ≡ s.labels)
  scans_again = by tail
    where
      too : Scans w begin s
      too = scans_too image w bytes same s r

      by : Tail is t → (v : Scan) × Scans w begin v × (v.at ≡ length w) × (v.insts ≡ is ++ t) × (v.labels ≡ s.labels)
      by (inl x) = (s, too, to_end ∙ sym (w_nothing x.1), rw x.1 (sym (append-nil is)), refl)
      by (inr x) =
          let n : length is < inst_limit = omega (arith, p.passes.fits, ap length p.passes.insts_are, ap length closed_is, length-append is t, ap length x.1) in
          let h : s.at < length w = omega (arith, to_end, w_longer x.1) in
          (closing s, joined w begin s (closing s) too (takes_halt w s h (ap (λ (k : ℕ). get_or w k 0) to_end ∙ last_byte x.1) n), omega (arith, to_end, w_longer x.1), rw x.1, refl)

  begins_all : Begins w (count_of l) (length w)
  begins_all =
      let x = scans_again in
      let n : length x.0.insts ≡ count_of l = ap length x.3 ∙ sym (ap length insts_are) in
      rw (← n, ← x.2) (listed w x.0 x.1).ends

  records : RecordsAre image (is ++ t)
  records = record { own = own; appended = λ n b _. tail_halts is t n tail (omega (arith, number_at_end image bytes s ls to_end n _ b refl)) }
    where
      own : (n at size : ℕ) (i : Inst) → Begins image n at → from_bytes image at ≡ reads i size → (n < length (is ++ t)) × (get_or (is ++ t) n halt ≡ i)
      own n at size i b e =
          let x = inst_is image bytes s ls to_end n at i size b e in
          (rw length-append (omega (arith, x.0)), get_or-append is t halt n x.0 ∙ x.1)

  -- ---- loading it again

  loads_alike : length w ≤ image_limit → loads w ≡ accepts l
  loads_alike h =
      let x = scans_again in
      let v = x.0 in
      let f = p.passes in
      let z = scan_to_end w begin v x.1 (omega (arith, x.2)) (length w) (omega arith) in
      let start : last_of w start_name no_entry (drop 1 v.labels) ≡ entry l.ip =
      ap (λ (d : List Label). last_of w start_name no_entry (drop 1 d)) x.4 ∙ last_too image w bytes same s start_name r ∙ f.start in
      let is-closed : l.insts ≡ closed v.insts = f.insts_are ∙ sym (closed_again is) ∙ ap closed (closed_is ∙ sym x.3) in
      loads_as w l v h z (record { insts_are = is-closed; labels_are = f.labels_are ∙ sym x.4; start = start; fits = f.fits; no_native = f.no_native })

  -- ---- the same names

  names : (k : ℕ) → SameName image w (get_or (is ++ t) k halt)
  names k = by (ltb k (length is)) refl
    where
      by : (b : Bool) → ltb k (length is) ≡ b → SameName image w (get_or (is ++ t) k halt)
      by true e =
          let h = ltb-true k (length is) e in
          subst (SameName image w) (sym (get_or-append is t halt k h)) (names_alike image w bytes same k _ (ls.each k h))
      by false e = subst (SameName image w) (sym (tail_halts is t k tail (ltb-false k (length is) e))) (nameless image 0 bytes w)

  labels_too : (name : List ℕ) (k : ℕ) → Labels image name (get_or (is ++ t) k halt) → Labels w name (get_or (is ++ t) k halt)
  labels_too name k x = record { is_label_lem = x.is_label_lem; name_is = names k ∙ x.name_is }

  labels_back : (name : List ℕ) (k : ℕ) → Labels w name (get_or (is ++ t) k halt) → Labels image name (get_or (is ++ t) k halt)
  labels_back name k x = record { is_label_lem = x.is_label_lem; name_is = sym (names k) ∙ x.name_is }

  start_too : (ip : ℕ) → DefinesLast image (is ++ t) start_name ip → DefinesLast w (is ++ t) start_name ip
  start_too ip d = ((d.0.0, labels_too start_name ip d.0.1), λ j h x. d.1 j h (x.0, labels_back start_name j x.1))

  -- ---- all are bytes

  bytes_too : Bytes w
  bytes_too = all_bytes image (is ++ t) (λ k h. by k (ltb k (length is)) refl)
    where
      of_halt : Bytes (as_bytes image halt)
      of_halt = subst Bytes (sym (halt_bytes image)) one
        where
          one : Bytes (69 ∷ [])
          one zero = lit< tt
          one (suc k) = lit< tt

      by : (k : ℕ) (b : Bool) → ltb k (length is) ≡ b → Bytes (as_bytes image (get_or (is ++ t) k halt))
      by k true e =
          let h = ltb-true k (length is) e in
          subst (λ (i : Inst). Bytes (as_bytes image i)) (sym (get_or-append is t halt k h)) (inst_bytes image bytes k _ (ls.each k h))
      by k false e = subst (λ (i : Inst). Bytes (as_bytes image i)) (sym (tail_halts is t k tail (ltb-false k (length is) e))) of_halt

  -- ---- together

  loads_as_before : loads w ≡ loaded_again l w
  unfolding loads
  loads_as_before =
      by_test (λ x. loads w ≡ x) (leb (length w) image_limit) (accepts l) (rejects 1)
      (λ e. loads_alike (leb-true (length w) image_limit e)) (λ e. rw (lt-ltb image_limit (length w) (leb-false (length w) image_limit e)))

  short : length w ≤ 2 ^ 64 - 1
  short = omega (arith, longest_is, p.short)

  module _ (accepted : loads image ≡ accepts l) (insts : List Inst) (holds : inst_limit ≤ length insts) where
    written_is : bytes_of_all image l.insts ≡ w
    written_is = ap (bytes_of_all image) insts_are

    start : DefinesLast w l.insts start_name l.ip
    start =
        subst (λ (x : List Inst). DefinesLast w x start_name l.ip) (sym insts_are)
        (start_too l.ip (subst (λ (x : List Inst). DefinesLast image x start_name l.ip) insts_are (valid image l bytes accepted).start_is))

    rewritten : Rewritten image insts l
    rewritten =
        record {
          written = w;
          records_are = subst (RecordsAre image) (sym insts_are) records;
          room = room;
          writes = writes image insts l w (valid image l bytes accepted).well (omega (arith, p.passes.fits)) written_is short;
          kept = bytes_kept image w bytes s r to_end same;
          names_are = λ k _. subst (λ (x : List Inst). SameName image w (get_or x k halt)) (sym insts_are) (names k);
          nothing_appended = (end_halts, begins_all);
          start_is = start;
          too_long = too_long;
          longest = longest;
          loads_again = λ insts₂ labels₂ h k. enough w insts₂ labels₂ h k ∙ loads_as_before;
          writes_again = λ h insts₂ holds₂. (let v = valid w l bytes_too (loads_alike h) in
              writes w insts₂ l w v.well (omega (arith, p.passes.fits)) (ap (bytes_of_all w) insts_are ∙ bytes_same image w (is ++ t) (λ k _. names k)) short);
        }

pub images_are_rewritten : ImagesAreRewritten
images_are_rewritten image insts labels l bytes e =
    let a = load_accepts image insts labels l e in
    let p = parsed image l a.accepted in
    let t = tail_of p.last.insts in
    rewritten image bytes l p t.0 t.1 t.2 a.accepted insts a.insts_room
