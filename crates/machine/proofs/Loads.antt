-- What an accepted image says of its scan and of the lent tables, and what a scan has to give for its image to be accepted. Assumes nothing.
use Prim.Native.Nat.{ℕ, ◌≤◌}
use mathlib.Core.Path.{◌≡◌, refl, ap, subst}
use mathlib.Core.Bool.{Bool, true, false, cond, ◌||◌}
use mathlib.Core.List.{List}
use native.Mathlib.Omega.{arith}
use lib.Dec.{ltb, leb}
use lib.ListN.{length, drop}
use borrow.Author.Tests.{ltb-false, le-ltb}
use Rattle.inst.specs.declared.Inst.{Inst}
use Rattle.inst.proofs.Laws.{by_test, or_left, or_right}
use Rattle.inst_decode.specs.Decode.{reads}
use Rattle.machine.specs.declared.Label.{Label}
use Rattle.machine.specs.Limits.{image_limit, inst_limit, label_records}
use Rattle.machine.specs.Load.{is_label, start_name, linked, Scan, Scanned, stops, goes, begin, added, scan_one, scan, Entry, no_entry, entry, last_of, any_native, closed, Loaded, Load, rejects, accepts, checked, entered, finished, loads, load, count_of}

-- no refusal is an acceptance
pub never_both : {A : Type 0} (n : ℕ) (l : Loaded) → rejects n ≡ accepts l → A
never_both n l e = absurd (let z : ◌≡◌ {A = ℕ} 0 1 = cc in omega arith)

-- one instruction more: 5, 6, a label linked, or the labels as they were
pub one_case : (P : Scanned → Type 0) (s : Scan) (i : Inst) (size : ℕ) → P (stops 5) → P (stops 6)
    → (is_label i ≡ true → leb label_records (length s.labels) ≡ false → P (added s i size (linked i (length s.insts) s.labels)))
    → (is_label i ≡ false → P (added s i size s.labels)) → P (scan_one s (reads i size))
unfolding scan_one
one_case P s i size five six label other =
    by_test P (leb inst_limit (length s.insts)) _ _ (λ _. five)
    (λ _. by_test P (is_label i) _ _ (λ e. by_test P (leb label_records (length s.labels)) _ _ (λ _. six) (label e)) other)

-- ---- the image

-- the scan s passes what is tested behind it, and gives l
pub record Finished (image : List ℕ) (s : Scan) (l : Loaded) : Type 0 where
  pub insts_are : l.insts ≡ closed s.insts
  pub labels_are : l.labels ≡ s.labels
  pub start : last_of image start_name no_entry (drop 1 s.labels) ≡ entry l.ip
  pub fits : count_of l ≤ inst_limit
  pub no_native : any_native l.insts ≡ false

abbrev loaded_in : Load → Loaded → Loaded
loaded_in (rejects n) m = m
loaded_in (accepts l) m = l

checked_by : (x l : Loaded) (a b : Bool) → cond a (rejects 5) (cond b (rejects 8) (accepts x)) ≡ accepts l → (a ≡ false) × (b ≡ false) × (x ≡ l)
checked_by x l true b e = never_both 5 l e
checked_by x l false true e = never_both 8 l e
checked_by x l false false e = (refl, refl, ap (λ (y : Load). loaded_in y x) e)

module _ (image : List ℕ) (l : Loaded) where
  entered_is : (s : Scan) (e : Entry) → last_of image start_name no_entry (drop 1 s.labels) ≡ e → entered s e ≡ accepts l → Finished image s l
  unfolding entered checked
  entered_is s no_entry q e = never_both 7 l e
  entered_is s (entry t) q e =
      let x : Loaded = record { insts = closed s.insts; labels = s.labels; ip = t } in
      let c = checked_by x l (ltb inst_limit (length x.insts)) (any_native x.insts) e in
      let f : Finished image s x = record { insts_are = refl; labels_are = refl; start = q; fits = ltb-false _ _ c.0; no_native = c.1 } in
      subst (Finished image s) c.2 f

  pub finished_is : (s : Scan) → finished image (goes s) ≡ accepts l → Finished image s l
  unfolding finished
  finished_is s e = entered_is s _ refl e

  -- an accepted image is short enough, and its scan passes
  pub record Parsed : Type 0 where
    pub last : Scan
    pub short : length image ≤ image_limit
    pub scanned : scan (length image) image begin ≡ goes last
    pub passes : Finished image last l

  scan_is : (r : Scanned) → scan (length image) image begin ≡ r → length image ≤ image_limit → finished image r ≡ accepts l → Parsed
  unfolding finished
  scan_is (stops n) z h e = never_both n l e
  scan_is (goes s) z h e = record { last = s; short = h; scanned = z; passes = finished_is s e }

  pub parsed : loads image ≡ accepts l → Parsed
  unfolding loads
  parsed =
      by_test (λ x. x ≡ accepts l → Parsed) (ltb image_limit (length image)) _ _ (λ _. never_both 1 l)
      (λ h. scan_is (scan (length image) image begin) refl (ltb-false _ _ h))

  -- and back
  pub loads_as : (s : Scan) → length image ≤ image_limit → scan (length image) image begin ≡ goes s → Finished image s l → loads image ≡ accepts l
  unfolding loads finished entered checked
  loads_as s h z f = rw (le-ltb image_limit (length image) h, z, f.start, ← f.insts_are, ← f.labels_are, le-ltb inst_limit (count_of l) f.fits, f.no_native)

-- ---- the lent tables only decide about 10

module _ (image : List ℕ) (is : List Inst) (ls : List Label) where
  pub enough : inst_limit ≤ length is → label_records ≤ length ls → load image is ls ≡ loads image
  unfolding load
  enough h k = simp (le-ltb _ _ h, le-ltb _ _ k)

  -- an accepted load: the tables have room, and the image is accepted
  pub record AcceptedLoad (l : Loaded) : Type 0 where
    pub insts_room : inst_limit ≤ length is
    pub labels_room : label_records ≤ length ls
    pub accepted : loads image ≡ accepts l
    pub count_fits : count_of l ≤ inst_limit

  pub load_accepts : (l : Loaded) → load image is ls ≡ accepts l → AcceptedLoad l
  unfolding load
  load_accepts l =
      by_test (λ x. x ≡ accepts l → AcceptedLoad l) (ltb (length is) inst_limit || ltb (length ls) label_records) _ _ (λ _. never_both 10 l)
      (λ h e. record {
        insts_room = ltb-false _ _ (or_left (ltb (length is) inst_limit) (ltb (length ls) label_records) h);
        labels_room = ltb-false _ _ (or_right (ltb (length is) inst_limit) (ltb (length ls) label_records) h);
        accepted = e;
        count_fits = (parsed image l e).passes.fits;
      })
