-- The next label of an instruction table's bytes, record by record. Assumes nothing.
use Prim.Native.Nat.{ℕ, zero, suc, ◌+◌, ◌-◌, ◌*◌, ◌<◌, ◌≤◌}
use mathlib.Core.Path.{◌≡◌, refl, ap, ◌∙◌}
use mathlib.Core.List.{List, ◌∷◌}
use native.Mathlib.Omega.{arith}
use Rattle.std.specs.Prelude.{Some, None}
use lib.ListN.{length, take, drop, length-take, drop_of_length-le}
use lib.Seq.{drop-cons, get_or-take, length-take-le}
use borrow.Author.Tests.{eq-eqb, ne_eqb}
use Rattle.inst.specs.declared.Inst.{Inst}
use Rattle.machine.specs.Load.{halt}
use Rattle.tables.specs.Tables.{inst, insts_of, inst_of}
use Rattle.tables.proofs.Laws.{length_records, record_at}
use Rattle.loader.specs.declared.labels.Linking.{Linking}
use Rattle.loader.specs.Linking.{label_link, next_link, IsLabel}

module _ (bs : List ℕ) (count : ℕ) (room : count * 32 ≤ length bs) (l : Linking) where
  -- the instructions from n on
  abbrev pub from : ℕ → List Inst
  from n = drop n (take count (insts_of bs))

  here : (n : ℕ) → n < count → from n ≡ inst_of bs n ∷ from (n + 1)
  here n h =
      let k = length_records inst bs in
      let m = length-take-le count (insts_of bs) (omega (arith, k)) in
      let z : suc n ≡ n + 1 = omega arith in
      drop-cons (take count (insts_of bs)) n halt (omega (arith, m))
      ∙ ap (λ (i : Inst). i ∷ from (suc n)) (get_or-take count (insts_of bs) n halt h ∙ record_at inst bs n halt (omega arith))
      ∙ ap (λ (m : ℕ). inst_of bs n ∷ from m) z

  ends : (n : ℕ) → count ≤ n → None ≡ next_link l n (from n)
  unfolding next_link
  ends n h = let k = length-take count (insts_of bs) in rw (drop_of_length-le (take count (insts_of bs)) {i = n} (omega (arith, k)))

  label_there : (n : ℕ) → n < count → IsLabel bs n → Some (label_link l n (inst_of bs n)) ≡ next_link l n (from n)
  unfolding next_link
  label_there n h e = simp (here n h, eq-eqb _ _ e)

  none_there : (n : ℕ) → n < count → (IsLabel bs n → ⊥) → next_link l (n + 1) (from (n + 1)) ≡ next_link l n (from n)
  unfolding next_link
  none_there n h e = simp (here n h, ne_eqb _ _ e)

  -- the first is d records behind n
  found : (d n i : ℕ) → i ≡ n + d → i < count → IsLabel bs i → ((k : ℕ) → n ≤ k → k < i → IsLabel bs k → ⊥) → Some (label_link l i (inst_of bs i)) ≡ next_link l n (from n)
  found zero n i e h y f = let z : i ≡ n = omega arith in rw z (label_there n (omega arith) (rw z at y))
  found (suc d) n i e h y f = found d (n + 1) i (omega arith) h y (λ k a b. f k (omega arith) b) ∙ none_there n (omega arith) (f n (omega arith) (omega arith))

  -- there is none in the d records that are left
  none : (d n : ℕ) → d ≡ count - n → ((k : ℕ) → n ≤ k → k < count → IsLabel bs k → ⊥) → None ≡ next_link l n (from n)
  none zero n e f = ends n (omega arith)
  none (suc d) n e f = none d (n + 1) (omega arith) (λ k a b. f k (omega arith) b) ∙ none_there n (omega arith) (f n (omega arith) (omega arith))

  -- what a search finds, or that it finds none
  pub label_next : (n i : ℕ) → (n ≤ i) × (i < count) × IsLabel bs i × ((k : ℕ) → n ≤ k → k < i → IsLabel bs k → ⊥) → Some (label_link l i (inst_of bs i)) ≡ next_link l n (from n)
  label_next n i f = found (i - n) n i (omega (arith, f.0)) f.1 f.2 f.3

  pub no_next : (n : ℕ) → ((k : ℕ) → n ≤ k → k < count → IsLabel bs k → ⊥) → None ≡ next_link l n (from n)
  no_next n f = none (count - n) n refl f
