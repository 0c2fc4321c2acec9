-- What holds during the pass that links the labels of a filled instruction table, whatever the slots of the label table are. Assumes nothing.
use Prim.Native.Nat.{ℕ, suc, ◌+◌, ◌-◌, ◌*◌, ◌<◌, ◌≤◌}
use mathlib.Core.Path.{◌≡◌, refl, ap, sym, ◌∙◌, subst}
use mathlib.Core.Bool.{Bool, true, false, cond}
use mathlib.Core.List.{List, [], ◌∷◌, ◌++◌}
use native.Mathlib.Omega.{arith}
use Rattle.std.specs.Prelude.{Option, Some, None, Ok, Err}
use lib.ListN.{length, take, drop, length-append, length-take, length-drop}
use lib.Seq.{sets, length-sets, sets-eq, take_at, drop-drop}
use Rattle.inst.specs.declared.Inst.{Inst}
use Rattle.inst.proofs.Laws.{by_test}
use Rattle.machine.specs.declared.Label.{Label}
use Rattle.machine.specs.Load.{is_label, head, linked, Loaded, Load, rejects, accepts, load, count_of}
use Rattle.tables.specs.Tables.{inst, label, insts_of, inst_bytes}
use Rattle.tables.proofs.Laws.{length_records, insts_sets}
use Rattle.loader.specs.declared.labels.Linking.{Linking}
use Rattle.loader.specs.declared.Checked.{Checked}
use Rattle.loader.specs.declared.refusal.Refusal.{Refusal}
use Rattle.loader.specs.Refusals.{number_of}
use Rattle.loader.specs.Loading.{checked_of, insts_left, slots_left, LoadInsts, LoadTables}
use Rattle.loader.specs.Linking.{head_link, label_link, next_link, linked_on, Covers}
use Rattle.loader.proofs.Loads.{accepted_answers, refused_answers, refused_keeps}
use Rattle.loader.proofs.Rests.{linked_long}
use Rattle.machine.proofs.Loads.{AcceptedLoad, load_accepts}
use Rattle.loader.proofs.Links.{links, links_grow, accepted_linked}

drop_first : {A : Type 0} (xs : List A) (x : A) → length (drop 1 (xs ++ (x ∷ []))) ≡ length xs
drop_first [] x = refl
drop_first (y ∷ xs) x = let a = length-append xs (x ∷ []) in omega (arith, a)

linked_on_long : (p : Linking) (ls : List Label) → length (linked_on p ls) ≡ length ls + 1
unfolding linked_on
linked_on_long p ls = let a = drop_first ls p.label in omega (arith, a)

-- the label i behind p's
label_on : (p : Linking) (i : Inst) (n : ℕ) (ls : List Label) → p.index ≡ length ls → linked_on (label_link p n i) (linked_on p ls) ≡ linked i n (linked_on p ls)
unfolding linked_on linked
label_on p i n ls e =
    let z : p.index + 1 ≡ suc (length (drop 1 (ls ++ (p.label ∷ [])))) = let a = drop_first ls p.label in omega (arith, a) in
    ap (λ (m : ℕ). head m ∷ drop 1 (ls ++ (p.label ∷ [])) ++ (label i.start i.len n p.index ∷ [])) z

-- the table's first records
taken : (is js : List Inst) → length is ≤ length js → take (length is) (sets js 0 is) ≡ is
taken is js h = ap (take (length is)) (sets-eq is js 0 (omega arith)) ∙ take_at is _ (length is) refl

dropped : {A : Type 0} (xs : List A) (n : ℕ) (y : A) (ys : List A) → drop n xs ≡ y ∷ ys → drop (n + 1) xs ≡ ys
dropped xs n y ys e = sym (drop-drop 1 n xs) ∙ ap (drop 1) e

-- what is left to pass of so many; it falls
unfoldable pub left : ℕ → Option Linking → ℕ
left count None = 0
left count (Some p) = suc (count - p.passed)

record Further (n size : ℕ) (q : Linking) : Type 0 where
  moves : n < q.passed
  inside : q.passed ≤ n + size

further : (is : List Inst) (p : Linking) (n : ℕ) (q : Linking) → next_link p n is ≡ Some q → Further n (length is) q
unfolding next_link
further [] p n q = λ e. cc
further (i ∷ is) p n q =
    by_test (λ o. o ≡ Some q → Further n (suc (length is)) q) (is_label i) _ _
    (λ _ e. let z : label_link p n i ≡ q = cc in subst (Further n (suc (length is))) z (record { moves = omega arith; inside = omega arith }))
    (λ _ e. let f = further is p (n + 1) q e in record { moves = let a = f.moves in omega arith; inside = let a = f.inside in omega arith })

pub left_falls : (count : ℕ) (p : Linking) (o : Option Linking) (is : List Inst) → o ≡ next_link p p.passed (drop p.passed (take count is)) → left count o < left count (Some p)
unfolding left
left_falls count p None is e = omega arith
left_falls count p (Some q) is e =
    let f = further (drop p.passed (take count is)) p p.passed q (sym e) in
    let a = f.moves in
    let b = f.inside in
    let d = length-drop p.passed (take count is) in
    let k = length-take count is in
    omega (arith, a, b, d, k)

-- no label is left where none comes to the table
none_left : (is : List Inst) (n : ℕ) (ls : List Label) (p : Linking) → 0 < length ls → length (links n is ls) ≤ length ls → next_link p n is ≡ None
unfolding links next_link
none_left [] n ls p z h = refl
none_left (i ∷ is) n ls p z h =
    by_test (λ o. o ≡ None) (is_label i) _ _
    (λ e. absurd (let a = (linked_long i n ls).1 z in let b = links_grow is (n + 1) (linked i n ls) in omega (arith, a, b, rw e at h)))
    (λ e. none_left is (n + 1) ls p z (rw e at h))

-- what the first pass answers of an accepted image; of a refused one it never does
count_there : (k : Checked) (l : Loaded) → Ok k ≡ checked_of (accepts l) → k.accepted.count ≡ count_of l
unfolding checked_of
count_there k l e = let z : k ≡ record { accepted = record { ip = l.ip; count = count_of l }; labels = length l.labels } = cc in ap (λ (x : Checked). x.accepted.count) z

never_answers : {A : Type 0} (n : ℕ) (k : Checked) → Ok k ≡ checked_of (rejects n) → A
unfolding checked_of
never_answers n k e = cc

-- the lent tables; the label table's records, and the slots that labels take in it
module _ {B : Type 0} (image insts₀ : List ℕ) (records : List B → List Label) (slots : List Label → List B) (labels₀ : List B) where
  abbrev given : Load
  given = load image (insts_of insts₀) (records labels₀)

  -- the filled table: the program's instructions, for which there is room
  module _ (l : Loaded) (is : given ≡ accepts l) (insts : List ℕ) (k : Checked) (f : LoadInsts given insts₀ (Ok k) insts) where
    room : count_of l ≤ length (insts_of insts₀)
    room = let g = load_accepts image (insts_of insts₀) (records labels₀) l is in let a = g.insts_room in let b = g.count_fits in omega (arith, a, b)

    counted : k.accepted.count ≡ count_of l
    unfolding checked_of
    counted = let e : Ok k ≡ checked_of (accepts l) = rw is at f.answers in count_there k l e

    stored : insts ≡ sets insts₀ 0 (inst_bytes l.insts)
    unfolding insts_left
    stored = f.insts_are ∙ ap (λ (x : Load). insts_left x insts₀) is

    filled_insts : take k.accepted.count (insts_of insts) ≡ l.insts
    filled_insts =
        ap (λ (n : ℕ). take n (insts_of insts)) counted
        ∙ ap (λ (bs : List ℕ). take (count_of l) (insts_of bs)) stored
        ∙ ap (take (count_of l)) (insts_sets l.insts insts₀)
        ∙ taken l.insts (insts_of insts₀) room

    filled_room : k.accepted.count * 32 ≤ length insts
    filled_room =
        let a = room in
        let b = counted in
        let c = length_records inst insts₀ in
        let d = ap length stored ∙ length-sets insts₀ 0 (inst_bytes l.insts) in
        omega (arith, a, b, c, d)

  by_load : (x : Load) → given ≡ x → (insts : List ℕ) (k : Checked) → LoadInsts given insts₀ (Ok k) insts → k.accepted.count * 32 ≤ length insts
  by_load (rejects n) g insts k f = never_answers n k (rw g at f.answers)
  by_load (accepts l) g insts k f = filled_room l g insts k f

  pub code_inside : (insts : List ℕ) (k : Checked) → LoadInsts given insts₀ (Ok k) insts → k.accepted.count * 32 ≤ length insts
  code_inside = by_load given refl

  -- the label table with these labels
  abbrev pub holding : List Label → List B
  holding ls = sets labels₀ 0 (slots ls)

  -- a label is to be linked: those before it are in the table; with it, and those of the instructions not yet passed, they are all
  pub record ToLink (p : Linking) (labels : List B) : Type 0 where
    pub loaded : Loaded
    pub is : given ≡ accepts loaded
    pub before : List Label
    pub has_labels : labels ≡ holding before
    pub index_is : p.index ≡ length before
    pub labels_are : p.labels ≡ length loaded.labels
    pub index_low : p.index ≤ p.passed
    pub rest : links p.passed (drop p.passed loaded.insts) (linked_on p before) ≡ loaded.labels

  -- or none is left
  unfoldable pub Underway : Option Linking → List B → Type 0
  Underway None labels = labels ≡ slots_left slots given labels₀
  Underway (Some p) labels = ToLink p labels

  -- as it begins
  begun : (x : Load) → given ≡ x → labels₀ ≡ holding [] → (k : Checked) → Ok k ≡ checked_of x → ToLink (head_link k.labels) labels₀
  unfolding checked_of linked_on
  begun (rejects n) g e k h = cc
  begun (accepts l) g e k h =
      let z : k ≡ record { accepted = record { ip = l.ip; count = count_of l }; labels = length l.labels } = cc in
      let a = accepted_linked image l (load_accepts image (insts_of insts₀) (records labels₀) l g).accepted in
      rw z (record { loaded = l; is = g; before = []; has_labels = e; index_is = refl; labels_are = refl; index_low = omega arith; rest = sym a.labels_are })

  pub underway_begins : (k : Checked) → Ok k ≡ checked_of given → (p : Linking) → p ≡ head_link k.labels → slots [] ≡ [] → Underway (Some p) labels₀
  unfolding Underway
  underway_begins k a p b e = rw b (begun given refl (rw e refl) k a)

  module _ (p : Linking) (labels : List B) (u : Underway (Some p) labels) where
    at : ToLink p labels
    unfolding Underway
    at = u

    facts : AcceptedLoad image (insts_of insts₀) (records labels₀) at.loaded
    facts = load_accepts image (insts_of insts₀) (records labels₀) at.loaded at.is

    -- it is one of the labels, and there is room for it
    index_long : length (linked_on p at.before) ≡ p.index + 1
    index_long = let a = linked_on_long p at.before in let b = at.index_is in omega (arith, a, b)

    one_of : p.index < p.labels
    one_of =
        let a = index_long in
        let b = links_grow (drop p.passed at.loaded.insts) p.passed (linked_on p at.before) in
        let c = ap length at.rest in
        let d = at.labels_are in
        omega (arith, a, b, c, d)

    pub index_inside : ((ls : List Label) → length (records (holding ls)) ≡ length (records labels₀)) → p.index < length (records labels)
    index_inside kept =
        let k = (accepted_linked image at.loaded facts.accepted).fit in
        let a = one_of in
        let d = at.labels_are in
        let e = facts.labels_room in
        let f = ap (λ (t : List B). length (records t)) at.has_labels ∙ kept at.before in
        omega (arith, k, a, d, e, f)

    module _ (insts : List ℕ) (k : Checked) (f : LoadInsts given insts₀ (Ok k) insts) where
      insts_are : take k.accepted.count (insts_of insts) ≡ at.loaded.insts
      insts_are = filled_insts at.loaded at.is insts k f

      pub covers : Covers insts k.accepted.count p
      covers =
          let f = index_long in
          let g = ap length at.rest in
          let h = at.labels_are in
          record {
            index_low = at.index_low;
            one_of = one_of;
            all_linked = λ e. rw insts_are (none_left (drop p.passed at.loaded.insts) p.passed (linked_on p at.before) p (omega (arith, f)) (omega (arith, f, g, h, e)));
          }

      -- the label is linked: whatever labels there are, there is one more
      abbrev pub Links : List B → Type 0
      Links labels' = (before : List Label) → p.index ≡ length before → labels ≡ holding before → labels' ≡ holding (linked_on p before)

      -- and on to the next
      found : (labels' : List B) → labels' ≡ holding (linked_on p at.before) → (is : List Inst) (n : ℕ) → drop n at.loaded.insts ≡ is → p.index ≤ n
          → links n is (linked_on p at.before) ≡ at.loaded.labels → Underway (next_link p n is) labels'
      unfolding links next_link Underway slots_left
      found labels' h [] n e m g = h ∙ ap holding g ∙ ap (λ (x : Load). slots_left slots x labels₀) (sym at.is)
      found labels' h (i ∷ is) n e m g = by_label (is_label i) (found labels' h is (n + 1) (dropped at.loaded.insts n i is e) (omega arith)) g
        where
          ls : List Label
          ls = linked_on p at.before

          by_label : (b : Bool) → (links (n + 1) is ls ≡ at.loaded.labels → Underway (next_link p (n + 1) is) labels')
              → links (n + 1) is (cond b (linked i n ls) ls) ≡ at.loaded.labels
              → Underway (cond b (Some (label_link p n i)) (next_link p (n + 1) is)) labels'
          by_label true f g' =
              record {
                loaded = at.loaded;
                is = at.is;
                before = ls;
                has_labels = h;
                index_is = sym index_long;
                labels_are = at.labels_are;
                index_low = omega arith;
                rest = ap (λ (xs : List Inst). links (n + 1) xs (linked_on (label_link p n i) ls)) (dropped at.loaded.insts n i is e)
                    ∙ ap (links (n + 1) is) (label_on p i n at.before at.index_is) ∙ g';
              }
          by_label false f g' = f g'

      pub underway_on : (o : Option Linking) (labels' : List B) → Links labels' → o ≡ next_link p p.passed (drop p.passed (take k.accepted.count (insts_of insts))) → Underway o labels'
      underway_on o labels' e f =
          let h = e at.before at.index_is at.has_labels in
          let s = found labels' h (drop p.passed at.loaded.insts) p.passed refl at.index_low at.rest in
          let z : o ≡ next_link p p.passed (drop p.passed at.loaded.insts) = f ∙ ap (λ (is : List Inst). next_link p p.passed (drop p.passed is)) insts_are in
          subst (λ (y : Option Linking). Underway y labels') (sym z) s

  -- as it ends, with the answer k and the instruction table that was filled
  pub underway_ends : (labels : List B) (insts : List ℕ) (k : Checked) → Underway None labels → LoadInsts given insts₀ (Ok k) insts
      → LoadTables slots given insts₀ labels₀ (Ok k.accepted) insts labels
  unfolding Underway
  underway_ends labels insts k u f = record { answers = accepted_answers k given f.answers; insts_are = f.insts_are; labels_are = u }

  -- and where the load is refused
  pub refused_ends : (insts : List ℕ) (e : Refusal) → LoadInsts given insts₀ (Err e) insts → LoadTables slots given insts₀ labels₀ (Err e) insts labels₀
  refused_ends insts e f = record { answers = refused_answers (number_of e) given f.answers; insts_are = f.insts_are; labels_are = refused_keeps (number_of e) given f.answers slots labels₀ }
