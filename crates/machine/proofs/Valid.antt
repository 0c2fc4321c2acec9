-- What holds of every accepted image: its records are well formed, the last is HALT, and the label chain is as linked. Assumes nothing.
use Prim.Native.Nat.{ℕ, zero, suc, ◌≤◌, ◌<◌}
use mathlib.Core.Path.{◌≡◌, refl, ap, ◌∙◌, sym, subst}
use mathlib.Core.Bool.{Bool, true, false, cond}
use mathlib.Core.List.{List, [], ◌∷◌, ◌++◌}
use native.Mathlib.Nat.{le_of_suc-le-suc, not-suc-le-zero}
use native.Mathlib.Numerals.{add-one}
use native.Mathlib.Omega.{arith}
use lib.Dec.{eqb, ltb, leb}
use lib.ListN.{drop, length, get_or, length-append, get_or-append}
use lib.Seq.{get_or_at}
use borrow.Author.Tests.{eqb-true, eqb-false, eq-eqb, ltb-true, ltb-false, leb-false}
use Rattle.inst.specs.declared.Inst.{Inst}
use Rattle.inst.specs.Forms.{Form, name, form_of, has_none, has_eight, has_one, has_name}
use Rattle.inst.specs.Records.{Bytes, name_in, fits, well_formed, same}
use Rattle.inst_decode.specs.Decode.{Answer, refused, reads}
use Rattle.inst_decode.proofs.Facts.{Told, told}
use Rattle.machine.specs.declared.Label.{Label}
use Rattle.machine.specs.Limits.{image_limit, inst_limit, label_records}
use Rattle.machine.specs.Load.{is_label, is_halt, halt, name_of, start_name, head, linked, Scan, Scanned, stops, goes, begin, added, scan_one, and_then, scan, Entry, no_entry, entry, last_of, any_native, last_is_halt, closed, Loaded, Load, rejects, accepts, checked, entered, finished, loads, count_of}
use Rattle.machine.specs.Encode.{all_well_formed}
use Rattle.machine.specs.Statements.{Labels, Defines, DefinesLast}
use Rattle.inst.proofs.Laws.{by_test, never, and_left, and_right}
use Rattle.machine.proofs.Cases.{both}
use Rattle.machine.proofs.Loads.{one_case}

-- definition number i of the label table leads to the one before, has a name in the image and a target among the first n
pub record Definition (image : List ℕ) (n i : ℕ) (l : Label) : Type 0 where
  pub next_is : l.next ≡ i
  pub name_inside : name_in image l.start l.len ≡ true
  pub target_below : l.target < n

-- a name's last definition is at this entry, or it has none
unfoldable pub LastIs : List ℕ → List Inst → List ℕ → Entry → Type 0
LastIs image insts wanted no_entry = (k : ℕ) → Defines image insts wanted k → ⊥
LastIs image insts wanted (entry t) = DefinesLast image insts wanted t

pub record Chain (image : List ℕ) (insts : List Inst) (labels : List Label) : Type 0 where
  pub defined : List Label
  pub labels_are : labels ≡ head (length defined) ∷ defined
  pub fit : length defined < label_records
  pub definitions : (i : ℕ) → i < length defined → Definition image (length insts) i (get_or defined i (head 0))
  pub last_are : (wanted : List ℕ) → LastIs image insts wanted (last_of image wanted no_entry defined)

pub record Valid (image : List ℕ) (l : Loaded) : Type 0 where
  pub well : all_well_formed image l.insts ≡ true
  pub halts_last : (i : ℕ) → i < count_of l → is_halt (get_or l.insts i halt) ≡ false → suc i < count_of l
  pub chain : Chain image l.insts l.labels
  pub start_is : DefinesLast image l.insts start_name l.ip

-- records

module _ (image : List ℕ) where
  well_snoc : (is : List Inst) (i : Inst) → all_well_formed image is ≡ true → well_formed image i ≡ true → all_well_formed image (is ++ (i ∷ [])) ≡ true
  unfolding all_well_formed
  well_snoc [] i h w = both _ _ w refl
  well_snoc (j ∷ is) i h w = both _ _ (and_left (well_formed image j) _ h) (well_snoc is i (and_right (well_formed image j) _ h) w)

  halt_well : well_formed image halt ≡ true
  unfolding well_formed form_of has_none has_eight has_one has_name fits
  halt_well = refl

  well_closed : (is : List Inst) → all_well_formed image is ≡ true → all_well_formed image (closed is) ≡ true
  unfolding closed
  well_closed is h = by_test (λ js. all_well_formed image js ≡ true) (last_is_halt is) _ _ (λ _. h) (λ _. well_snoc is halt h halt_well)

  pub well_at : (is : List Inst) (i : ℕ) → all_well_formed image is ≡ true → i < length is → well_formed image (get_or is i halt) ≡ true
  unfolding all_well_formed
  well_at [] i h l = absurd (not-suc-le-zero l)
  well_at (j ∷ is) zero h l = and_left _ _ h
  well_at (j ∷ is) (suc i) h l = well_at is i (and_right (well_formed image j) _ h) (le_of_suc-le-suc l)

-- an instruction that isn't HALT is not the last
not_last : (is : List Inst) (i : ℕ) → last_is_halt is ≡ true → i < length is → is_halt (get_or is i halt) ≡ false → suc i < length is
unfolding last_is_halt
not_last [] i e l h = never e
not_last (j ∷ []) zero e l h = never (sym h ∙ e)
not_last (j ∷ []) (suc i) e l h = absurd (not-suc-le-zero (le_of_suc-le-suc l))
not_last (j ∷ k ∷ is) zero e l h = omega arith
not_last (j ∷ k ∷ is) (suc i) e l h = let r = not_last (k ∷ is) i e (le_of_suc-le-suc l) h in omega arith

halt_last : (is : List Inst) → last_is_halt (is ++ (halt ∷ [])) ≡ true
unfolding last_is_halt
halt_last [] = refl
halt_last (i ∷ []) = refl
halt_last (i ∷ j ∷ is) = halt_last (j ∷ is)

pub closed_halts : (is : List Inst) → last_is_halt (closed is) ≡ true
unfolding closed
closed_halts is = by_test (λ js. last_is_halt js ≡ true) (last_is_halt is) _ _ (λ e. e) (λ _. halt_last is)

-- two names are the same bytes
same_is : (xs ys : List ℕ) → same xs ys ≡ true → xs ≡ ys
unfolding same
same_is [] [] e = refl
same_is [] (y ∷ ys) e = never e
same_is (x ∷ xs) [] e = never e
same_is (x ∷ xs) (y ∷ ys) e = let a = eqb-true x y (and_left _ _ e) in let b = same_is xs ys (and_right (eqb x y) _ e) in cc

same_self : (xs : List ℕ) → same xs xs ≡ true
unfolding same
same_self [] = refl
same_self (x ∷ xs) = both _ _ (eq-eqb x x refl) (same_self xs)

last_snoc : (image wanted : List ℕ) (e : Entry) (d : List Label) (l : Label)
    → last_of image wanted e (d ++ (l ∷ [])) ≡ cond (same wanted (name_of image l)) (entry l.target) (last_of image wanted e d)
unfolding last_of
last_snoc image wanted e [] l = refl
last_snoc image wanted e (k ∷ d) l = last_snoc image wanted (cond (same wanted (name_of image k)) (entry k.target) e) d l

-- the definitions of a name among the instructions `is`, and with i behind them
module _ (image : List ℕ) (is : List Inst) (i : Inst) where
  abbrev longer : List Inst
  longer = is ++ (i ∷ [])

  size : length longer ≡ suc (length is)
  size = length-append is (i ∷ []) ∙ add-one (length is)

  module _ (wanted : List ℕ) where
    kept : (k : ℕ) → Defines image is wanted k → Defines image longer wanted k
    kept k d = (rw size (omega (arith, d.0)), rw (get_or-append is (i ∷ []) halt k d.0) d.1)

    -- a definition is one of the old ones, or i
    old_or_new : (k : ℕ) → Defines image longer wanted k → (b : Bool) → ltb k (length is) ≡ b → (Labels image wanted i → ⊥) → Defines image is wanted k
    old_or_new k d true e n = let l = ltb-true k (length is) e in (l, rw (get_or-append is (i ∷ []) halt k l) at d.1)
    old_or_new k d false e n =
        let z : length is ≡ k = omega (arith, ltb-false k (length is) e, rw size at d.0) in
        absurd (n (rw (get_or_at is i [] halt k z) at d.1))

    -- i is no definition of the name
    last_kept : (Labels image wanted i → ⊥) → (e : Entry) → LastIs image is wanted e → LastIs image longer wanted e
    unfolding LastIs
    last_kept n no_entry h = λ k d. h k (old_or_new k d _ refl n)
    last_kept n (entry t) h = (kept t h.0, λ j l d. h.1 j l (old_or_new j d _ refl n))

    -- i is one, the last
    last_new : Labels image wanted i → LastIs image longer wanted (entry (length is))
    unfolding LastIs
    last_new h = ((rw size (omega arith), rw (get_or_at is i [] halt (length is) refl) h), λ j l d. omega (arith, rw size at d.0))

-- the label chain

more : (image : List ℕ) (n m i : ℕ) (l : Label) → n ≤ m → Definition image n i l → Definition image m i l
more image n m i l h d = record { next_is = d.next_is; name_inside = d.name_inside; target_below = omega (arith, d.target_below) }

-- an instruction that is no LABEL
chain_more : (image : List ℕ) (is : List Inst) (i : Inst) (labels : List Label) → is_label i ≡ false → Chain image is labels → Chain image (is ++ (i ∷ [])) labels
chain_more image is i labels n c =
    record {
      defined = c.defined;
      labels_are = c.labels_are;
      fit = c.fit;
      definitions = λ j l. more image _ _ j _ (rw (size image is i) (omega arith)) (c.definitions j l);
      last_are = λ wanted. last_kept image is i wanted (λ l. eqb-false i.typ 21 n l.is_label_lem) _ (c.last_are wanted);
    }

label_name : (image : List ℕ) (i : Inst) → is_label i ≡ true → well_formed image i ≡ true → name_in image i.start i.len ≡ true
unfolding well_formed form_of has_none has_eight has_one has_name fits
label_name image i e w =
    let z : form_of i.typ ≡ name = ap form_of (eqb-true i.typ 21 e) in
    and_right (eqb i.val 0) _ (subst (λ (f : Form). fits image i f ≡ true) z w)

module _ (image : List ℕ) (is : List Inst) (i : Inst) (label : is_label i ≡ true) (named : name_in image i.start i.len ≡ true) where
  -- the definition that i makes, behind k others
  abbrev new : ℕ → Label
  new k = record { start = i.start; len = i.len; target = length is; next = k }

  new_definitions : (d : List Label) → ((j : ℕ) → j < length d → Definition image (length is) j (get_or d j (head 0)))
      → (j : ℕ) → j < suc (length d) → (b : Bool) → ltb j (length d) ≡ b
      → Definition image (length (is ++ (i ∷ []))) j (get_or (d ++ (new (length d) ∷ [])) j (head 0))
  new_definitions d f j h true e =
      let l = ltb-true j (length d) e in
      rw (get_or-append d (new (length d) ∷ []) (head 0) j l) (more image _ _ j _ (rw (size image is i) (omega arith)) (f j l))
  new_definitions d f j h false e =
      let z : length d ≡ j = omega (arith, ltb-false j (length d) e) in
      rw (get_or_at d (new (length d)) [] (head 0) j z) (record { next_is = z; name_inside = named; target_below = rw (size image is i) (omega arith) })

  new_last : (d : List Label) (k : ℕ) (wanted : List ℕ) → LastIs image is wanted (last_of image wanted no_entry d)
      → LastIs image (is ++ (i ∷ [])) wanted (last_of image wanted no_entry (d ++ (new k ∷ [])))
  new_last d k wanted h =
      rw (last_snoc image wanted no_entry d (new k))
      (by_test (LastIs image (is ++ (i ∷ [])) wanted) (same wanted (name_of image (new k))) _ _
      (λ e. last_new image is i wanted (record { is_label_lem = eqb-true i.typ 21 label; name_is = sym (same_is wanted _ e) }))
      (λ e. last_kept image is i wanted (λ l. never (sym e ∙ (rw l.name_is (same_self wanted)))) _ h))

  -- linked first: it stands last in the table and leads to the one before
  chain_linked : (labels : List Label) → Chain image is labels → leb label_records (length labels) ≡ false
      → Chain image (is ++ (i ∷ [])) (linked i (length is) labels)
  unfolding linked
  chain_linked labels c f =
      let d = c.defined in
      let size : length (d ++ (new (length d) ∷ [])) ≡ suc (length d) = length-append d (new (length d) ∷ []) ∙ add-one (length d) in
      record {
        defined = d ++ (new (length d) ∷ []);
        labels_are = rw (c.labels_are, size);
        fit = rw size (leb-false label_records (suc (length d)) (rw c.labels_are at f));
        definitions = λ j h. new_definitions d c.definitions j (rw size at h) (ltb j (length d)) refl;
        last_are = λ wanted. new_last d (length d) wanted (c.last_are wanted);
      }

-- reading

pub record Good (image : List ℕ) (s : Scan) : Type 0 where
  pub well : all_well_formed image s.insts ≡ true
  pub chain : Chain image s.insts s.labels

unfoldable GoodScanned : List ℕ → Scanned → Type 0
GoodScanned image (stops n) = Unit {0}
GoodScanned image (goes s) = Good image s

module _ (image : List ℕ) (bytes : Bytes image) where
  added_good : (s : Scan) (i : Inst) (size : ℕ) (labels : List Label) → Good image s → well_formed image i ≡ true
      → Chain image (s.insts ++ (i ∷ [])) labels → GoodScanned image (added s i size labels)
  unfolding GoodScanned
  added_good s i size labels g w c = record { well = well_snoc image s.insts i g.well w; chain = c }

  one_good : (s : Scan) (a : Answer) → Good image s → Told image s.at a → GoodScanned image (scan_one s a)
  unfolding scan_one GoodScanned
  one_good s (refused n) g t = tt
  one_good s (reads i size) g t =
      let w = t.formed bytes in
      one_case (GoodScanned image) s i size tt tt
      (λ e f. added_good s i size _ g w (chain_linked image s.insts i e (label_name image i e w) s.labels g.chain f))
      (λ e. added_good s i size _ g w (chain_more image s.insts i _ e g.chain))

  then_good : (rest : Scan → Scanned) → ((s : Scan) → Good image s → GoodScanned image (rest s)) → (r : Scanned) → GoodScanned image r
      → GoodScanned image (and_then rest r)
  unfolding and_then GoodScanned
  then_good rest f (stops n) g = tt
  then_good rest f (goes s) g = f s g

  scan_good : (fuel : ℕ) (s : Scan) → Good image s → GoodScanned image (scan fuel image s)
  unfolding scan GoodScanned
  scan_good zero s g = g
  scan_good (suc fuel) s g =
      by_test (GoodScanned image) (ltb s.at (length image)) _ (goes s)
      (λ _. then_good (scan fuel image) (scan_good fuel) _ (one_good s _ g (told image s.at)))
      (λ _. g)

  begin_good : Good image begin
  unfolding all_well_formed LastIs last_of
  begin_good =
      record {
        well = refl;
        chain = record { defined = []; labels_are = refl; fit = omega arith; definitions = λ i l. absurd (not-suc-le-zero l); last_are = λ wanted k d. not-suc-le-zero d.0 };
      }

-- after the last byte

chain_closed : (image : List ℕ) (is : List Inst) (labels : List Label) → Chain image is labels → Chain image (closed is) labels
unfolding closed
chain_closed image is labels c = by_test (λ js. Chain image js labels) (last_is_halt is) _ _ (λ _. c) (λ _. chain_more image is halt labels refl c)

unfoldable GoodLoad : List ℕ → Load → Type 0
GoodLoad image (rejects n) = Unit {0}
GoodLoad image (accepts l) = Valid image l

module _ (image : List ℕ) where
  entered_good : (s : Scan) (e : Entry) → Good image s → last_of image start_name no_entry (drop 1 s.labels) ≡ e → GoodLoad image (entered s e)
  unfolding entered checked GoodLoad LastIs
  entered_good s no_entry g q = tt
  entered_good s (entry t) g q =
      let n = length (closed s.insts) in
      let c = chain_closed image s.insts s.labels g.chain in
      by_test (GoodLoad image) (ltb inst_limit n) _ _ (λ _. tt) λ _.
      by_test (GoodLoad image) (any_native (closed s.insts)) _ (accepts _) (λ _. tt) λ _.
      record {
        well = well_closed image s.insts g.well;
        halts_last = λ i. not_last (closed s.insts) i (closed_halts s.insts);
        chain = c;
        start_is = subst (LastIs image (closed s.insts) start_name)
            (ap (λ (d : List Label). last_of image start_name no_entry (drop 1 d)) (sym c.labels_are) ∙ q) (c.last_are start_name);
      }

  finished_good : (r : Scanned) → GoodScanned image r → GoodLoad image (finished image r)
  unfolding finished GoodLoad GoodScanned
  finished_good (stops n) g = tt
  finished_good (goes s) g = entered_good s _ g refl

  loads_good : Bytes image → GoodLoad image (loads image)
  unfolding loads GoodLoad
  loads_good bytes =
      by_test (GoodLoad image) (ltb image_limit (length image)) (rejects 1) _ (λ _. tt)
      (λ _. finished_good _ (scan_good image bytes (length image) begin (begin_good image bytes)))

  -- every accepted image
  pub valid : (l : Loaded) → Bytes image → loads image ≡ accepts l → Valid image l
  unfolding GoodLoad
  valid l bytes e = subst (GoodLoad image) e (loads_good bytes)
