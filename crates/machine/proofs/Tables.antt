-- The step over the lent tables is the step over the loader's lists: what stands behind the filled slots is never met. Assumes nothing.
use Prim.Native.Nat.{ℕ, zero, suc, ◌+◌, ◌≤◌, ◌<◌}
use mathlib.Core.Path.{◌≡◌, refl, ap, ◌∙◌, sym, subst}
use mathlib.Core.Bool.{Bool, true, false, cond}
use mathlib.Core.List.{List, [], ◌∷◌, ◌++◌}
use native.Mathlib.Omega.{arith}
use lib.Dec.{eqb-suc-zero}
use lib.ListN.{length, get_or, length-append, get_or-append}
use borrow.Author.Tests.{lt-ltb, le-leb}
use Rattle.inst.specs.declared.Inst.{Inst}
use Rattle.inst.specs.Records.{part, same}
use Rattle.machine.specs.declared.Machine.{Machine}
use Rattle.machine.specs.declared.Label.{Label}
use Rattle.machine.specs.Limits.{stack_limit, call_limit}
use Rattle.machine.specs.Load.{halt, name_of, head, Entry, no_entry, entry, last_of, Loaded, count_of}
use Rattle.machine.specs.Change.{height_of_calls}
use Rattle.machine.specs.Lookup.{Program, Found, ill_chain, no_label, leads_to, label_at, walk, lookup_from, lookup}
use Rattle.machine.specs.Step.{inst_at, well_state, step, exec, op_of}
use Rattle.inst.proofs.Laws.{by_test}
use Rattle.machine.specs.Statements.{FindsLast}
use Rattle.machine.proofs.Valid.{Definition, LastIs, Valid, well_at}

-- the loader's lists with anything behind them
abbrev pub padded : List ℕ → Loaded → List Inst → List Label → Program
padded image l is ls = record { image = image; insts = l.insts ++ is; labels = l.labels ++ ls; count = count_of l }

-- what a lookup finds among the first i definitions, the last first
unfoldable pub find : List ℕ → List ℕ → List Label → ℕ → Found
find image name d zero = no_label
find image name d (suc i) = let l = get_or d i (head 0) in cond (same name (name_of image l)) (leads_to l.target) (find image name d i)

module _ (image : List ℕ) (name : List ℕ) (p : Program) (d : List Label) (in_image : p.image ≡ image)
    (definitions : (i : ℕ) → i < length d → Definition image p.count i (get_or d i (head 0)))
    (filled : (i : ℕ) → i < length d → label_at p (suc i) ≡ get_or d i (head 0)) where
  walk_finds : (i fuel bound : ℕ) → i ≤ length d → i < bound → bound ≤ fuel → walk fuel p name bound i ≡ find image name d i
  unfolding walk find
  walk_finds zero zero bound h b f = absurd (omega arith)
  walk_finds zero (suc fuel) bound h b f = refl
  walk_finds (suc i) zero bound h b f = absurd (omega arith)
  walk_finds (suc i) (suc fuel) bound h b f =
      let e = definitions i h in
      let ih = walk_finds i fuel (suc i) (omega arith) (omega arith) (omega arith) in
      simp (eqb-suc-zero, filled i h, in_image, lt-ltb (suc i) bound b, e.name_inside, e.next_is, lt-ltb _ p.count e.target_below, ih)

-- never an ill chain, and no target past the count
unfoldable pub Inside : ℕ → Found → Type 0
Inside n ill_chain = ⊥
Inside n no_label = Unit {0}
Inside n (leads_to t) = t < n

find_inside : (image name : List ℕ) (n : ℕ) (d : List Label) → ((i : ℕ) → i < length d → Definition image n i (get_or d i (head 0)))
    → (i : ℕ) → i ≤ length d → Inside n (find image name d i)
unfolding find Inside
find_inside image name n d f zero h = tt
find_inside image name n d f (suc i) h =
    by_test (Inside n) (same name (name_of image (get_or d i (head 0)))) (leads_to _) (find image name d i)
    (λ _. (f i h).target_below) (λ _. find_inside image name n d f i (omega arith))

-- the last definition of a name is the one that a lookup finds

entry_or : Entry → Found → Entry
entry_or e ill_chain = e
entry_or e no_label = e
entry_or e (leads_to t) = entry t

module _ (image name : List ℕ) where
  -- a definition before the others counts where they don't have the name
  earlier : (l : Label) (d : List Label) (i : ℕ) (e : Entry)
      → entry_or e (find image name (l ∷ d) (suc i)) ≡ entry_or (cond (same name (name_of image l)) (entry l.target) e) (find image name d i)
  unfolding find entry_or
  earlier l d zero e = by (same name (name_of image l))
    where
      by : (b : Bool) → entry_or e (cond b (leads_to l.target) no_label) ≡ cond b (entry l.target) e
      by true = refl
      by false = refl
  earlier l d (suc i) e = by _ _ _ _ (same name (name_of image (get_or d i (head 0)))) (earlier l d i e)
    where
      by : (f g : Found) (e' : Entry) (t : ℕ) (b : Bool) → entry_or e f ≡ entry_or e' g → entry_or e (cond b (leads_to t) f) ≡ entry_or e' (cond b (leads_to t) g)
      by f g e' t true h = refl
      by f g e' t false h = h

  last_found : (d : List Label) (e : Entry) → last_of image name e d ≡ entry_or e (find image name d (length d))
  unfolding last_of find entry_or
  last_found [] e = refl
  last_found (l ∷ d) e = last_found d (cond (same name (name_of image l)) (entry l.target) e) ∙ sym (earlier l d (length d) e)

  finds_last : (n : ℕ) (is : List Inst) (f : Found) → Inside n f → LastIs image is name (entry_or no_entry f) → FindsLast image is name f
  unfolding Inside LastIs FindsLast entry_or
  finds_last n is ill_chain i h = i
  finds_last n is no_label i h = h
  finds_last n is (leads_to t) i h = h

module _ (image : List ℕ) (l : Loaded) (v : Valid image l) where
  -- the lookup of an instruction's name among the loaded labels
  abbrev pub find_name : Inst → Found
  find_name i = find image (part image i.start i.len) v.chain.defined (length v.chain.defined)

  pub name_inside : (i : Inst) → Inside (count_of l) (find_name i)
  name_inside i = find_inside image _ (count_of l) v.chain.defined v.chain.definitions _ (omega arith)

  module _ (is : List Inst) (ls : List Label) where
    abbrev p : Program
    p = padded image l is ls

    filled : (i : ℕ) → i < length v.chain.defined → label_at p (suc i) ≡ get_or v.chain.defined i (head 0)
    filled i h = rw v.chain.labels_are (get_or-append v.chain.defined ls (head 0) i h)

    pub lookup_is : (i : Inst) → lookup p i ≡ find_name i
    unfolding lookup lookup_from
    lookup_is i =
        let d = v.chain.defined in
        let size : length (l.labels ++ ls) ≡ suc (length d) + length ls = length-append l.labels ls ∙ ap (λ (x : List Label). length x + length ls) v.chain.labels_are in
        let w = walk_finds image (part image i.start i.len) p d refl v.chain.definitions filled (length d) (length p.labels) (length p.labels) (omega arith) (omega arith) (omega arith) in
        ap (λ (x : List Label). lookup_from p (part image i.start i.len) (x ++ ls)) v.chain.labels_are ∙ w

    -- to the last definition
    pub name_found : (i : Inst) → FindsLast image l.insts (part image i.start i.len) (lookup p i)
    name_found i =
        let name = part image i.start i.len in
        rw (lookup_is i)
        (finds_last image name (count_of l) l.insts _ (name_inside i)
        (subst (LastIs image l.insts name) (last_found image name v.chain.defined no_entry) (v.chain.last_are name)))

    pub inst_is : (m : Machine) → m.ip < count_of l → inst_at p m ≡ get_or l.insts m.ip halt
    inst_is m h = get_or-append l.insts is halt m.ip h

    -- no 34 before a lookup
    pub well_state_lem : (m : Machine) → m.height ≤ stack_limit → height_of_calls m ≤ call_limit → m.ip < count_of l → well_state p m ≡ true
    unfolding well_state
    well_state_lem m h d i =
        let w = well_at image l.insts m.ip v.well i in
        let n : count_of l ≤ length (l.insts ++ is) = rw length-append (omega arith) in
        simp (inst_is m i, le-leb _ _ h, le-leb _ _ d, lt-ltb _ _ i, le-leb _ _ n, w)

    pub step_is : (m : Machine) → m.height ≤ stack_limit → height_of_calls m ≤ call_limit → m.ip < count_of l
        → step p m ≡ exec (find_name (get_or l.insts m.ip halt)) (get_or l.insts m.ip halt) m (op_of (get_or l.insts m.ip halt).typ)
    unfolding step
    step_is m h d i = simp (well_state_lem m h d i, inst_is m i, lookup_is)
