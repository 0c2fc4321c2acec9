-- What an image gives from a scan on, by what the code's reading of one instruction more answers. Assumes nothing.
use Prim.Native.Nat.{ℕ, zero, suc, ◌+◌, ◌<◌, ◌≤◌}
use mathlib.Core.Path.{◌≡◌, refl, ap, sym, ◌∙◌, subst}
use mathlib.Core.Bool.{Bool, true, false, cond}
use mathlib.Core.List.{List, [], ◌∷◌, ◌++◌}
use native.Mathlib.Omega.{arith}
use lib.Dec.{leb}
use lib.ListN.{length, length-append}
use Rattle.std.specs.Prelude.{Ok, Err}
use borrow.Author.Tests.{lt-ltb, le-ltb, leb-false}
use Rattle.inst.specs.declared.Inst.{Inst}
use Rattle.inst.proofs.Laws.{by_test}
use Rattle.inst_decode.specs.Decode.{Answer, refused, reads, from_bytes}
use Rattle.machine.specs.Limits.{image_limit, inst_limit, label_records}
use Rattle.machine.specs.declared.Label.{Label}
use Rattle.machine.specs.Load.{is_label, linked, Scan, Scanned, stops, goes, begin, scan_one, and_then, scan, Load, rejects, finished, loads}
use Rattle.loader.specs.declared.reading.Counts.{Counts}
use Rattle.loader.specs.Reading.{counts_of, next_of, Further}
use Rattle.loader.proofs.Scans.{last_inst, snoc_last}

-- the image from s on gives l
pub record Rest (image : List ℕ) (s : Scan) (l : Load) : Type 0 where
  pub fuel : ℕ
  pub enough : length image ≤ s.at + fuel
  pub gives : finished image (scan fuel image s) ≡ l

-- one instruction more
pub record Grown (s to : Scan) (i : Inst) : Type 0 where
  pub insts_are : to.insts ≡ s.insts ++ (i ∷ [])
  pub labels_are : to.labels ≡ cond (is_label i) (linked i (length s.insts) s.labels) s.labels
  pub labels_fit : length s.labels ≤ label_records → length to.labels ≤ label_records

goes_where : (s to : Scan) (i : Inst) (size : ℕ) (ls : List Label) → ls ≡ cond (is_label i) (linked i (length s.insts) s.labels) s.labels
    → (length s.labels ≤ label_records → length ls ≤ label_records) → goes (record { at = s.at + size; insts = s.insts ++ (i ∷ []); labels = ls }) ≡ goes to
    → Grown s to (last_inst to.insts)
goes_where s to i size ls e f q =
    let z : record { at = s.at + size; insts = s.insts ++ (i ∷ []); labels = ls } ≡ to = cc in
    subst (λ (x : Scan). Grown s x (last_inst x.insts)) z (rw snoc_last (record { insts_are = refl; labels_are = e; labels_fit = f }))

-- at most one label record more, and just one where the table has its head
pub linked_long : (i : Inst) (n : ℕ) (ls : List Label) → (length (linked i n ls) ≤ length ls + 1) × (0 < length ls → length (linked i n ls) ≡ length ls + 1)
unfolding linked
linked_long i n [] = (omega arith, λ z. absurd (omega arith))
linked_long i n (h ∷ ls) = let e = length-append ls (record { start = i.start; len = i.len; target = n; next = h.next } ∷ []) in (omega (arith, e), λ z. omega (arith, e))

pub grown : (s to : Scan) (a : Answer) → scan_one s a ≡ goes to → Grown s to (last_inst to.insts)
unfolding scan_one
grown s to (refused n) q = absurd (let z : ◌≡◌ {A = ℕ} 0 1 = cc in omega arith)
grown s to (reads i size) q =
    by_test (λ x. x ≡ goes to → Grown s to (last_inst to.insts)) (leb inst_limit (length s.insts)) _ _
    (λ _ r. absurd (let z : ◌≡◌ {A = ℕ} 0 1 = cc in omega arith))
    (λ _. by_test (λ x. x ≡ goes to → Grown s to (last_inst to.insts)) (is_label i) _ _
    (λ e. by_test (λ x. x ≡ goes to → Grown s to (last_inst to.insts)) (leb label_records (length s.labels)) _ _
    (λ _ r. absurd (let z : ◌≡◌ {A = ℕ} 0 1 = cc in omega arith))
    (λ k. goes_where s to i size _ (rw e) (λ _. let n = (linked_long i (length s.insts) s.labels).0 in let m = leb-false label_records (length s.labels) k in omega (arith, n, m))))
    (λ e. goes_where s to i size _ (rw e) (λ f. f)))
    q

-- the label table keeps its head
head_kept : (b : Bool) (i : Inst) (n : ℕ) (ls : List Label) → 0 < length ls → 0 < length (cond b (linked i n ls) ls)
unfolding linked
head_kept true i n [] h = h
head_kept true i n (l ∷ ls) h = omega arith
head_kept false i n ls h = h

module _ (image : List ℕ) where
  -- the code's answer says where the scan went
  pub record Went (s : Scan) (d : Counts) : Type 0 where
    pub to : Scan
    pub goes_to : scan_one s (from_bytes image s.at) ≡ goes to
    pub counts_are : d ≡ counts_of image to

  went' : (s : Scan) (d : Counts) (x : Scanned) → scan_one s (from_bytes image s.at) ≡ x → Ok d ≡ next_of image x → Went s d
  unfolding next_of
  went' s d (stops n) e q = cc
  went' s d (goes t) e q = record { to = t; goes_to = e; counts_are = cc }

  went : (s : Scan) (d : Counts) → Ok d ≡ next_of image (scan_one s (from_bytes image s.at)) → Went s d
  went s d q = went' s d _ refl q

  pub stopped : (n : ℕ) (x : Scanned) → Err n ≡ next_of image x → x ≡ stops n
  unfolding next_of
  stopped n (stops m) q = cc
  stopped n (goes t) q = cc

  -- the rest of the image
  module _ (s : Scan) (l : Load) (h : s.at < length image) where
    rest_goes : (to : Scan) (fuel : ℕ) → length image ≤ s.at + fuel → finished image (scan fuel image s) ≡ l → scan_one s (from_bytes image s.at) ≡ goes to → s.at < to.at
        → Rest image to l
    unfolding scan and_then
    rest_goes to zero k g e m = absurd (omega arith)
    rest_goes to (suc fuel) k g e m = record { fuel = fuel; enough = omega arith; gives = simp (lt-ltb _ _ h, e) at g }

    pub rest_next : (to : Scan) → Rest image s l → scan_one s (from_bytes image s.at) ≡ goes to → s.at < to.at → Rest image to l
    rest_next to r = rest_goes to r.fuel r.enough r.gives

    rest_stops : (n fuel : ℕ) → length image ≤ s.at + fuel → finished image (scan fuel image s) ≡ l → scan_one s (from_bytes image s.at) ≡ stops n → rejects n ≡ l
    unfolding scan and_then finished
    rest_stops n zero k g e = absurd (omega arith)
    rest_stops n (suc fuel) k g e = simp (lt-ltb _ _ h, e) at g

    pub rest_stop : (n : ℕ) → Rest image s l → scan_one s (from_bytes image s.at) ≡ stops n → rejects n ≡ l
    rest_stop n r = rest_stops n r.fuel r.enough r.gives

  scan_end : (fuel : ℕ) (s : Scan) → length image ≤ s.at → scan fuel image s ≡ goes s
  unfolding scan
  scan_end zero s h = refl
  scan_end (suc fuel) s h = simp (le-ltb _ _ h)

  pub rest_end : (s : Scan) (l : Load) → length image ≤ s.at → Rest image s l → finished image (goes s) ≡ l
  rest_end s l h r = ap (finished image) (sym (scan_end r.fuel s h)) ∙ r.gives

  pub rest_begin : Rest image begin (finished image (scan (length image) image begin))
  rest_begin = record { fuel = length image; enough = omega arith; gives = refl }

  -- a step of the first pass: c was kept of s, and the code keeps d
  pub record Passes (l : Load) (c d : Counts) (s : Scan) : Type 0 where
    pub to : Scan
    pub counts_are : d ≡ counts_of image to
    pub has_head : 0 < length to.labels
    pub rest : Rest image to l

  at_of : (c : Counts) (s : Scan) → c ≡ counts_of image s → c.at ≡ s.at
  unfolding counts_of
  at_of c s e = ap (λ (x : Counts). x.at) e

  module _ (l : Load) (c : Counts) (s : Scan) (e : c ≡ counts_of image s) (z : 0 < length s.labels) (r : Rest image s l) (h : c.at < length image) where
    inside : s.at < length image
    inside = rw (at_of c s e) at h

    pub passes : (d : Counts) → c.at < d.at → Ok d ≡ next_of image (scan_one s (from_bytes image s.at)) → Passes l c d s
    passes d m q =
        let w = went s d q in
        let i = last_inst w.to.insts in
        let g = grown s w.to _ w.goes_to in
        let k : s.at < w.to.at = rw (at_of c s e, at_of d w.to w.counts_are) at m in
        record {
          to = w.to;
          counts_are = w.counts_are;
          has_head = rw g.labels_are (head_kept (is_label i) i (length s.insts) s.labels z);
          rest = rest_next s l inside w.to r w.goes_to k;
        }

    pub refuses_there : (n : ℕ) → Err n ≡ next_of image (scan_one s (from_bytes image s.at)) → rejects n ≡ l
    refuses_there n q = rest_stop s l inside n r (stopped n _ q)

  pub ends_there : (l : Load) (c : Counts) (s : Scan) → c ≡ counts_of image s → Rest image s l → length image ≤ c.at → finished image (goes s) ≡ l
  ends_there l c s e r h = rest_end s l (rw (at_of c s e) at h) r

-- while an image is checked
pub record Checking (image : List ℕ) (c : Counts) : Type 0 where
  pub reached : Scan
  pub counts_are : c ≡ counts_of image reached
  pub has_head : 0 < length reached.labels
  pub rest : Rest image reached (finished image (scan (length image) image begin))
  pub fit : c.insts ≤ inst_limit

module _ (image : List ℕ) where
  pub checking_begins : (c : Counts) → c ≡ counts_of image begin → Checking image c
  unfolding counts_of
  checking_begins c e =
      let n : c.insts ≡ 0 = ap (λ (x : Counts). x.insts) e in
      record { reached = begin; counts_are = e; has_head = omega arith; rest = rest_begin image; fit = omega arith }

  module _ (c : Counts) (k : Checking image c) (h : c.at < length image) where
    pub checking_next : (d : Counts) → Further (length image) c d → Ok d ≡ next_of image (scan_one k.reached (from_bytes image k.reached.at))
        → Checking image d
    checking_next d f q =
        let p = passes image _ c k.reached k.counts_are k.has_head k.rest h d f.moves q in
        record { reached = p.to; counts_are = p.counts_are; has_head = p.has_head; rest = p.rest; fit = f.insts_fit }

  pub loads_is : length image ≤ image_limit → loads image ≡ finished image (scan (length image) image begin)
  unfolding loads
  loads_is h = simp (le-ltb _ _ h)
