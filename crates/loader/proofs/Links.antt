-- The labels of a load are those that a pass over its instructions links. Assumes nothing.
use Prim.Native.Nat.{ℕ, zero, suc, ◌+◌, ◌≤◌}
use mathlib.Core.Path.{◌≡◌, refl, ap, sym, ◌∙◌}
use mathlib.Core.Bool.{Bool, true, false, cond}
use mathlib.Core.List.{List, [], ◌∷◌, ◌++◌}
use native.Mathlib.Nat.{add-zero, zero-add}
use native.Mathlib.Omega.{arith}
use lib.Dec.{ltb}
use lib.ListN.{length}
use Rattle.inst.specs.declared.Inst.{Inst}
use Rattle.inst.proofs.Laws.{by_test}
use Rattle.inst_decode.specs.Decode.{from_bytes}
use Rattle.machine.specs.Limits.{label_records}
use Rattle.machine.specs.declared.Label.{Label}
use Rattle.machine.specs.Load.{is_label, halt, head, linked, Scan, Scanned, stops, goes, begin, scan_one, and_then, scan, last_is_halt, closed, Loaded, accepts, finished, loads}
use Rattle.loader.proofs.Scans.{last_inst}
use Rattle.loader.proofs.Rests.{linked_long, grown}
use Rattle.machine.proofs.Loads.{never_both, finished_is}
use Rattle.loader.proofs.Loads.{not_finished, accepted_rest}

-- the label table behind instructions, the first of which is instruction n
unfoldable pub links : ℕ → List Inst → List Label → List Label
links n [] ls = ls
links n (i ∷ is) ls = links (n + 1) is (cond (is_label i) (linked i n ls) ls)

links_more : (is : List Inst) (n : ℕ) (i : Inst) (ls : List Label) → links n (is ++ (i ∷ [])) ls ≡ cond (is_label i) (linked i (n + length is) (links n is ls)) (links n is ls)
unfolding links
links_more [] n i ls = rw (add-zero n)
links_more (j ∷ is) n i ls =
    let e : n + 1 + length is ≡ n + suc (length is) = omega arith in
    links_more is (n + 1) i _ ∙ ap (λ (m : ℕ). cond (is_label i) (linked i m (links n (j ∷ is) ls)) (links n (j ∷ is) ls)) e

-- an appended HALT links nothing
links_closed : (is : List Inst) (ls : List Label) → links 0 (closed is) ls ≡ links 0 is ls
unfolding closed
links_closed is ls = by_halt (last_is_halt is)
  where
    by_halt : (b : Bool) → links 0 (cond b is (is ++ (halt ∷ []))) ls ≡ links 0 is ls
    by_halt true = refl
    by_halt false = links_more is 0 halt ls

-- a label table only grows
linked_grows : (b : Bool) (i : Inst) (n : ℕ) (ls : List Label) → length ls ≤ length (cond b (linked i n ls) ls)
linked_grows true i n [] = omega arith
linked_grows true i n (h ∷ ls) = let e = (linked_long i n (h ∷ ls)).1 (omega arith) in omega (arith, e)
linked_grows false i n ls = omega arith

pub links_grow : (is : List Inst) (n : ℕ) (ls : List Label) → length ls ≤ length (links n is ls)
unfolding links
links_grow [] n ls = omega arith
links_grow (i ∷ is) n ls = let a = linked_grows (is_label i) i n ls in let b = links_grow is (n + 1) (cond (is_label i) (linked i n ls) ls) in omega (arith, a, b)

-- the labels of instructions, and there is room for them
pub record Linked (is : List Inst) (ls : List Label) : Type 0 where
  pub labels_are : ls ≡ links 0 is (head 0 ∷ [])
  pub fit : length ls ≤ label_records

begin_linked : Linked begin.insts begin.labels
unfolding links
begin_linked = record { labels_are = refl; fit = omega arith }

module _ (image : List ℕ) (l : Loaded) where
  linked_next : (s to : Scan) → scan_one s (from_bytes image s.at) ≡ goes to → Linked s.insts s.labels → Linked to.insts to.labels
  linked_next s to e k =
      let g = grown s to _ e in
      let i = last_inst to.insts in
      let m = links_more s.insts 0 i (head 0 ∷ []) in
      record {
        labels_are = g.labels_are ∙ sym (ap (λ (is : List Inst). links 0 is (head 0 ∷ [])) g.insts_are ∙ (rw (zero-add, ← k.labels_are) at m));
        fit = g.labels_fit k.fit;
      }

  linked_end : (s : Scan) → Linked s.insts s.labels → finished image (goes s) ≡ accepts l → Linked l.insts l.labels
  linked_end s k e =
      let c = finished_is image l s e in
      rw (c.insts_are, c.labels_are) (record { labels_are = k.labels_are ∙ sym (links_closed s.insts (head 0 ∷ [])); fit = k.fit })

  -- with one instruction more, if what follows it is so
  one_more : (s : Scan) (rest : Scan → Scanned) (x : Scanned) → ((to : Scan) → x ≡ goes to → finished image (rest to) ≡ accepts l → Linked l.insts l.labels)
      → finished image (and_then rest x) ≡ accepts l → Linked l.insts l.labels
  unfolding and_then
  one_more s rest (stops n) f q = never_both n l (not_finished image l n q)
  one_more s rest (goes to) f q = f to refl q

  linked_all : (fuel : ℕ) (s : Scan) → Linked s.insts s.labels → finished image (scan fuel image s) ≡ accepts l → Linked l.insts l.labels
  unfolding scan
  linked_all zero s k = linked_end s k
  linked_all (suc fuel) s k =
      by_test (λ x. finished image x ≡ accepts l → Linked l.insts l.labels) (ltb s.at (length image)) _ _
      (λ _. one_more s (scan fuel image) (scan_one s (from_bytes image s.at)) (λ to e. linked_all fuel to (linked_next s to e k))) (λ _. linked_end s k)

  pub accepted_linked : loads image ≡ accepts l → Linked l.insts l.labels
  accepted_linked e = let r = accepted_rest image l e in linked_all r.fuel begin begin_linked r.gives
