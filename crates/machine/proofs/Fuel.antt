-- The numbers that bound the recursions of load and lookup are never used up: an accepted image was read to its end, and more fuel changes
-- no lookup. Assumes nothing.
use Prim.Native.Nat.{ℕ, zero, suc, ◌+◌, ◌≤◌, ◌<◌}
use mathlib.Core.Path.{◌≡◌, refl, subst}
use mathlib.Core.Bool.{Bool, true, false, cond, ◌&&◌}
use mathlib.Core.List.{List}
use native.Mathlib.Omega.{arith}
use lib.Dec.{eqb, ltb}
use lib.ListN.{length}
use borrow.Author.Tests.{ltb-true, ltb-false, eqb-false}
use Rattle.inst.specs.Records.{name_in, same}
use Rattle.inst.proofs.Laws.{by_test, and_left}
use Rattle.inst_decode.specs.Decode.{Answer, refused, reads}
use Rattle.inst_decode.proofs.Facts.{Told, told}
use Rattle.machine.specs.Load.{name_of, Scan, Scanned, stops, goes, begin, scan_one, and_then, scan}
use Rattle.machine.specs.Lookup.{Program, Found, ill_chain, no_label, label_at, in_program, walk}
use Rattle.machine.proofs.Loads.{one_case}

-- no bytes are left but n
unfoldable Left : List ℕ → ℕ → Scanned → Type 0
Left image n (stops k) = Unit {0}
Left image n (goes s) = length image ≤ s.at + n

module _ (image : List ℕ) where
  one_less : (n : ℕ) (s : Scan) (a : Answer) → length image ≤ s.at + suc n → Told image s.at a → Left image n (scan_one s a)
  unfolding Left scan_one
  one_less n s (refused k) h t = tt
  one_less n s (reads i size) h t =
      let l : length image ≤ s.at + size + n = omega (arith, t.moves) in
      one_case (Left image n) s i size tt tt (λ _ _. l) (λ _. l)

  then_none : (rest : Scan → Scanned) (n : ℕ) → ((s : Scan) → length image ≤ s.at + n → Left image 0 (rest s)) → (r : Scanned) → Left image n r
      → Left image 0 (and_then rest r)
  unfolding Left and_then
  then_none rest n f (stops k) l = tt
  then_none rest n f (goes s) l = f s l

  scan_ends : (n : ℕ) (s : Scan) → length image ≤ s.at + n → Left image 0 (scan n image s)
  unfolding Left scan
  scan_ends zero s h = h
  scan_ends (suc n) s h =
      by_test (Left image 0) (ltb s.at (length image)) _ (goes s)
      (λ _. then_none (scan n image) n (scan_ends n) _ (one_less n s _ h (told image s.at)))
      (λ b. omega (arith, ltb-false s.at (length image) b))

  pub reads_to_end : (s : Scan) → scan (length image) image begin ≡ goes s → length image ≤ s.at
  unfolding Left
  reads_to_end s e = omega (arith, subst (Left image 0) e (scan_ends (length image) begin (omega arith)))

module _ (p : Program) (name : List ℕ) where
  -- one record on, as each index is below the bound
  below : (fuel bound i : ℕ) (z w : Bool) (found : ℕ → Found) → eqb i 0 ≡ z → (ltb i bound && name_in p.image (label_at p i).start (label_at p i).len) ≡ w
      → bound ≤ suc fuel → (0 < i → i ≤ fuel → found (suc fuel) ≡ found fuel) → (b : Bool) (x : Found)
      → cond z no_label (cond w (cond b x (found (suc fuel))) ill_chain) ≡ cond z no_label (cond w (cond b x (found fuel)) ill_chain)
  below fuel bound i true w found e h f g b x = refl
  below fuel bound i false false found e h f g b x = refl
  below fuel bound i false true found e h f g true x = refl
  below fuel bound i false true found e h f g false x =
      let l = ltb-true i bound (and_left _ _ h) in
      let n = eqb-false i 0 e in
      g (positive i n) (omega arith)
    where
      positive : (i : ℕ) → (i ≡ 0 → ⊥) → 0 < i
      positive zero n = absurd (n refl)
      positive (suc i) n = omega arith

  pub walks_to_end : (fuel bound i : ℕ) → 0 < bound → bound ≤ fuel → walk (suc fuel) p name bound i ≡ walk fuel p name bound i
  unfolding walk
  walks_to_end zero bound i b f = absurd (omega arith)
  walks_to_end (suc fuel) bound i b f =
      below fuel bound i (eqb i 0) _ (λ n. walk n p name i (label_at p i).next) refl refl f (walks_to_end fuel i (label_at p i).next)
      (same name (name_of p.image (label_at p i))) (in_program p (label_at p i).target)
