-- A scan as the list of what it reads, without a bound, and back to one with a bound. Assumes nothing.
use Prim.Native.Nat.{ℕ, zero, suc, ◌+◌, ◌<◌, ◌≤◌}
use mathlib.Core.Path.{◌≡◌, refl, ap, ◌∙◌, subst}
use mathlib.Core.Bool.{Bool, true, false, cond}
use mathlib.Core.List.{List}
use native.Mathlib.Omega.{arith}
use lib.Dec.{ltb}
use lib.ListN.{length}
use borrow.Author.Tests.{ltb-true, lt-ltb, le-ltb}
use Rattle.inst.specs.declared.Inst.{Inst}
use Rattle.inst_decode.specs.Decode.{Answer, refused, reads, from_bytes}
use Rattle.inst_decode.proofs.Facts.{read_in_lem}
use Rattle.machine.specs.Load.{Scan, Scanned, stops, goes, begin, scan_one, and_then, scan}
use Rattle.rewritten.specs.Rewritten.{first}
use Rattle.rewritten.proofs.Places.{one_adds, ReadSoFar, listed_next}

-- from s to t by one instruction
pub record ReadsOne (image : List ℕ) (s t : Scan) : Type 0 where
  pub inst : Inst
  pub size : ℕ
  pub inside : s.at < length image
  pub is : from_bytes image s.at ≡ reads inst size
  pub goes_on : scan_one s (reads inst size) ≡ goes t

pub data Scans (image : List ℕ) : Scan → Scan → Type 0 where
  done : (s : Scan) → Scans image s s
  more : (s t u : Scan) → ReadsOne image s t → Scans image t u → Scans image s u

abbrev scan_in : Scanned → Scan
scan_in (stops n) = begin
scan_in (goes s) = s

stopped : {A : Type 0} (n : ℕ) (u : Scan) → stops n ≡ goes u → A
stopped n u e = let z : ◌≡◌ {A = ℕ} 0 1 = cc in absurd (omega arith)

module _ (image : List ℕ) where
  scans_then : (rest : Scan → Scanned) (s u : Scan) → s.at < length image → (a : Answer) → from_bytes image s.at ≡ a
      → ((t : Scan) → rest t ≡ goes u → Scans image t u) → (r : Scanned) → scan_one s a ≡ r → and_then rest r ≡ goes u → Scans image s u
  unfolding and_then scan_one
  scans_then rest s u h (refused n) e f (stops k) q z = stopped k u z
  scans_then rest s u h (refused n) e f (goes t) q z = stopped n t q
  scans_then rest s u h (reads i size) e f (stops k) q z = stopped k u z
  scans_then rest s u h (reads i size) e f (goes t) q z =
      more s t u (record { inst = i; size = size; inside = h; is = e; goes_on = q }) (f t z)

  scans_by : (rest : Scan → Scanned) (s u : Scan) → ((t : Scan) → rest t ≡ goes u → Scans image t u) → (b : Bool) → ltb s.at (length image) ≡ b
      → cond b (and_then rest (scan_one s (from_bytes image s.at))) (goes s) ≡ goes u → Scans image s u
  scans_by rest s u f true b e = scans_then rest s u (ltb-true _ _ b) (from_bytes image s.at) refl f _ refl e
  scans_by rest s u f false b e = subst (Scans image s) (ap scan_in e) (done s)

  pub scans : (fuel : ℕ) (s u : Scan) → scan fuel image s ≡ goes u → Scans image s u
  unfolding scan
  scans zero s u e = subst (Scans image s) (ap scan_in e) (done s)
  scans (suc fuel) s u e = scans_by (scan fuel image) s u (λ t. scans fuel t u) (ltb s.at (length image)) refl e

  -- what each step keeps
  pub along : (P : Scan → Type 0) → ((s t : Scan) → ReadsOne image s t → P s → P t) → (s u : Scan) → Scans image s u → P s → P u
  along P f s u (done _) p = p
  along P f s u (more _ t _ q r) p = along P f t u r (f s t q p)

  pub begin_listed : ReadSoFar image begin
  begin_listed = record { ends = first; each = λ k h. absurd (omega arith) }

  pub step_listed : (s t : Scan) → ReadsOne image s t → ReadSoFar image s → ReadSoFar image t
  step_listed s t q l = listed_next image s t q.inst q.size l q.is (one_adds s q.inst q.size t q.goes_on)

  pub listed : (u : Scan) → Scans image begin u → ReadSoFar image u
  listed u r = along (ReadSoFar image) step_listed begin u r begin_listed

  pub joined : (s t u : Scan) → Scans image s t → Scans image t u → Scans image s u
  joined s t u (done _) r = r
  joined s t u (more _ v _ q p) r = more s v u q (joined v t u p r)

  step_is : (fuel : ℕ) (s t : Scan) → ReadsOne image s t → scan (suc fuel) image s ≡ scan fuel image t
  unfolding scan and_then
  step_is fuel s t q = rw (lt-ltb s.at (length image) q.inside, q.is, q.goes_on)

  stays : (fuel : ℕ) (s : Scan) → length image ≤ s.at → scan fuel image s ≡ goes s
  unfolding scan
  stays zero s h = refl
  stays (suc fuel) s h = rw (le-ltb s.at (length image) h)

  -- a scan to the last byte is one with a bound of as many bytes as are left
  pub scan_to_end : (s u : Scan) → Scans image s u → length image ≤ u.at → (fuel : ℕ) → length image ≤ s.at + fuel → scan fuel image s ≡ goes u
  scan_to_end s u (done _) e fuel h = stays fuel s e
  scan_to_end s u (more _ t _ q r) e zero h = absurd (omega (arith, q.inside))
  scan_to_end s u (more _ t _ q r) e (suc fuel) h =
      let a = one_adds s q.inst q.size t q.goes_on in
      let m = (read_in_lem image s.at q.inst q.size q.is).moves in
      step_is fuel s t q ∙ scan_to_end t u r e fuel (omega (arith, a.at_is))
