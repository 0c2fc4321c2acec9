-- Every run is a history, for every program and machine: its reported steps lead to the machine that it returns, and its ending's condition holds.
-- Assumes nothing.
use Prim.Native.Nat.{ℕ, zero, suc, ◌+◌, ◌-◌, ◌≤◌, ◌<◌}
use mathlib.Core.Path.{◌≡◌, refl, ap, ◌∙◌, sym}
use mathlib.Core.Bool.{Bool, true, false, cond, ◌&&◌}
use mathlib.Core.List.{List, [], ◌∷◌, ◌++◌, append_assoc, append-nil}
use native.Mathlib.Nat.{zero-add, add-zero, add-suc, suc-add}
use native.Mathlib.Omega.{arith}
use lib.Dec.{eqb}
use lib.IntN.{◌+ℤ◌}
use lib.ListN.{length, take, drop, length-append}
use lib.Seq.{sets, length-sets, take-append_seam, drop-append_seam}
use borrow.Author.Tests.{eqb-true, eqb-false}
use Rattle.machine.specs.declared.Machine.{Machine}
use Rattle.machine.specs.Ending.{Ending, Halted, Limit, Number}
use Rattle.machine.specs.Lookup.{Program}
use Rattle.machine.specs.Step.{Stepped, succeeds, outputs, trap, ill, step}
use Rattle.machine.specs.Run.{Course, ended, after, is_ill, is_dump, Before, before, taken, turn, course, reported, run}
use Rattle.machine.specs.Change.{height_of_calls}
use Rattle.machine.specs.Effects.{Outcome, untrapped, trapped, Calls, opens, closes, keeps, effect, leaves, open_calls_after}
use Rattle.machine.specs.History.{State, none, end, end_with, advance, stepped, effects_at, further, history}
use Rattle.machine.specs.Steps.{CallsLeft}
use Rattle.machine.specs.Statements.{is_ill_lem, is_full, is_trap, Because, RunsAreHistories}
use Rattle.inst.proofs.Laws.{by_test, never, and_left, and_right}
use Rattle.machine.proofs.Lists.{filled}
use Rattle.machine.proofs.Lists.{length-drop_last}
use Rattle.machine.proofs.Does.{CallsAre, Room, Does, anywhere}

ill_is : (s : Stepped) → is_ill s ≡ true → s ≡ ill
unfolding is_ill
ill_is (succeeds m) e = never e
ill_is (outputs c m) e = never e
ill_is (trap t m) e = never e
ill_is ill e = refl

-- The open calls that a step from m to m' leaves are as many as the return addresses

abbrev Counts : Machine → List ℕ → Type 0
Counts m l = height_of_calls m ≡ length l

abbrev Open : Machine → Machine → List ℕ → Calls → Outcome → Type 0
Open m m' l k o = (l' : List ℕ) × (open_calls_after k o m.ip l ≡ leaves l') × Counts m' l'

one_more_open : (m m' : Machine) (l : List ℕ) → Counts m l → height_of_calls m' ≡ height_of_calls m + 1 → Counts m' (l ++ (m.ip ∷ []))
one_more_open m m' l h c = rw length-append (omega arith)

open_next : (m m' : Machine) (l : List ℕ) → Counts m l → (k : Calls) → CallsAre k m m' → Open m m' l k untrapped
unfolding CallsAre open_calls_after
open_next m m' l h keeps c = (l, refl, c.1 ∙ h)
open_next m m' l h opens c = (_, refl, one_more_open m m' l h c.2)
open_next m m' [] h closes c = absurd (omega (arith, c.0))
open_next m m' (x ∷ l) h closes c = (_, refl, rw length-drop_last (omega (arith, c.2)))

open_trap : (m m' : Machine) (l : List ℕ) → Counts m l → (k : Calls) (t : ℕ) → CallsLeft (eqb t 27) m m' → Room k t m → Open m m' l k (trapped t)
unfolding Room open_calls_after CallsLeft
open_trap m m' l h keeps t c r = (l, refl, (rw r at c).1 ∙ h)
open_trap m m' l h closes t c r = (l, refl, (rw r at c).1 ∙ h)
open_trap m m' l h opens t c r = (_, refl, by (eqb t 27) c)
  where
    by : (b : Bool) → CallsLeft b m m' → Counts m' (cond b (l ++ (m.ip ∷ [])) l)
    by true c = one_more_open m m' l h c.1
    by false c = c.1 ∙ h

pub end_same : (s u : State) → end s ≡ end u → s ≡ u
end_same s u e = cc

pub none_end : (s : State) → none ≡ end s → ⊥
none_end s e = let z : ◌≡◌ {A = ℕ} 0 1 = cc in omega arith

module _ (p : Program) (first : State) where
  -- the condition of an ending, with other names for its numbers
  because_as : (m : Machine) (steps limit dumped room steps' limit' dumped' room' : ℕ) → steps ≡ steps' → limit ≡ limit' → (dumped ≡ room → dumped' ≡ room')
      → (e : Ending) → Because p first steps limit dumped room m e → Because p first steps' limit' dumped' room' m e
  unfolding Because
  because_as m steps limit dumped room steps' limit' dumped' room' s l d Halted b = b
  because_as m steps limit dumped room steps' limit' dumped' room' s l d Limit b = (b.0, sym s ∙ b.1 ∙ l)
  because_as m steps limit dumped room steps' limit' dumped' room' s l d (Number n) (is_ill_lem e i h k) = is_ill_lem e i h (rw (← s, ← l) k)
  because_as m steps limit dumped room steps' limit' dumped' room' s l d (Number n) (is_full e i f h k) = is_full e i (d f) h (rw (← s, ← l) k)
  because_as m steps limit dumped room steps' limit' dumped' room' s l d (Number n) (is_trap k u e h t) = is_trap k u (e ∙ s) h t

  -- the history that a run from the state s, after n steps, goes on to, and what the run reports
  pub record Joined (n : ℕ) (s : State) (limit room : ℕ) (r : Course) : Type 0 where
    pub last : State
    pub history_is : history p first (n + r.steps) ≡ end last
    pub machine_is : last.machine ≡ r.machine
    pub counts : Counts last.machine last.open_calls
    pub dumps_are : last.dumps ≡ s.dumps ++ r.cells
    pub within : r.steps ≤ limit
    pub fits : length r.cells ≤ room
    pub because : Because p first (n + r.steps) (n + limit) (length r.cells) room r.machine r.ending
    pub trap_ends : (k : ℕ) (u : State) (t : ℕ) (m : Machine) → n ≤ k → k < n + r.steps → history p first k ≡ end u → step p u.machine ≡ trap t m
        → (suc k ≡ n + r.steps) × (r.ending ≡ Number t)

  joined_ended : (n : ℕ) (s : State) (limit room : ℕ) (e : Ending) → history p first n ≡ end s → Counts s.machine s.open_calls
      → Because p first (n + 0) (n + limit) 0 room s.machine e → Joined n s limit room (ended e s.machine)
  joined_ended n s limit room e q c b =
      record {
        last = s;
        history_is = rw add-zero q;
        machine_is = refl;
        counts = c;
        dumps_are = sym (append-nil s.dumps);
        within = omega arith;
        fits = omega arith;
        because = b;
        trap_ends = λ k u t m i j. absurd (omega arith);
      }

  joined_after : (n : ℕ) (s u : State) (cells : List ℕ) (limit room whole : ℕ) (r : Course) → history p first n ≡ end s
      → ((t : ℕ) (m : Machine) → step p s.machine ≡ trap t m → (r.steps ≡ 0) × (r.ending ≡ Number t)) → u.dumps ≡ s.dumps ++ cells
      → length cells + room ≡ whole → Joined (suc n) u limit room r → Joined n s (suc limit) whole (after cells r)
  joined_after n s u cells limit room whole r q only-last d f j =
      record {
        last = j.last;
        history_is = rw (add-suc, ← suc-add) j.history_is;
        machine_is = j.machine_is;
        counts = j.counts;
        dumps_are = j.dumps_are ∙ ap (λ (x : List ℕ). x ++ r.cells) d ∙ append_assoc s.dumps cells r.cells;
        within = omega (arith, j.within);
        fits = rw length-append (omega (arith, j.fits));
        because = because_as r.machine _ _ _ _ _ _ _ _ (suc-add n r.steps ∙ sym (add-suc n r.steps)) (suc-add n limit ∙ sym (add-suc n limit))
            (λ e. length-append cells r.cells ∙ ap (λ (x : ℕ). length cells + x) e ∙ f) r.ending j.because;
        trap_ends = λ k v t m a b e i. by k v t m a b e i (eqb k n) refl;
      }
    where
      by : (k : ℕ) (v : State) (t : ℕ) (m : Machine) → n ≤ k → k < n + suc r.steps → history p first k ≡ end v → step p v.machine ≡ trap t m
          → (b : Bool) → eqb k n ≡ b → (suc k ≡ n + suc r.steps) × (r.ending ≡ Number t)
      by k v t m a b e i true z =
          let same : s ≡ v = end_same s v (sym q ∙ ap (history p first) (sym (eqb-true k n z)) ∙ e) in
          let l = only-last t m (ap (λ (x : State). step p x.machine) same ∙ i) in
          (omega (arith, l.0, eqb-true k n z), l.1)
      by k v t m a b e i false z = let l = j.trap_ends k v t m (later (eqb-false k n z)) (omega arith) e i in (omega (arith, l.0), l.1)
        where
          later : (k ≡ n → ⊥) → suc n ≤ k
          later h = omega arith

  -- a run with this limit joins the history wherever it starts
  abbrev pub Joins : ℕ → Type 0
  Joins limit = (room n : ℕ) (s : State) → history p first n ≡ end s → Counts s.machine s.open_calls
      → Joined n s limit room (course p limit room s.machine)

  module _ (n : ℕ) (s : State) (q : history p first n ≡ end s) (c : Counts s.machine s.open_calls) where
    -- the history's next step
    goes : s.machine.halted ≡ false → history p first (suc n) ≡ stepped s (effects_at p s.machine) (step p s.machine)
    unfolding history further
    goes h = ap (further p) q ∙ ap (λ (b : Bool). cond b none (stepped s (effects_at p s.machine) (step p s.machine))) h

    -- the state after it, and the run from there
    abbrev after_it : Outcome → Machine → List ℕ → List ℕ → State
    after_it o m' cells l = record { machine = m'; height = s.height +ℤ effect (effects_at p s.machine) o; open_calls = l; dumps = s.dumps ++ cells }

    next : (limit room whole : ℕ) (o : Outcome) (m' : Machine) (cells : List ℕ) (rest : Course) → s.machine.halted ≡ false
        → stepped s (effects_at p s.machine) (step p s.machine) ≡ advance s (effects_at p s.machine) o m' cells
        → Open s.machine m' s.open_calls (effects_at p s.machine).on_calls o
        → ((t : ℕ) (m : Machine) → step p s.machine ≡ trap t m → (rest.steps ≡ 0) × (rest.ending ≡ Number t)) → length cells + room ≡ whole
        → ((l : List ℕ) → history p first (suc n) ≡ end (after_it o m' cells l) → Counts m' l → Joined (suc n) (after_it o m' cells l) limit room rest)
        → Joined n s (suc limit) whole (after cells rest)
    unfolding advance end_with
    next limit room whole o m' cells rest h e k only-last f j =
        joined_after n s _ cells limit room whole rest q only-last refl f (j k.0 (goes h ∙ e ∙ ap (end_with _) k.1) k.2)

    taken_joins : (limit room : ℕ) → Joins limit → s.machine.halted ≡ false → (st : Stepped) → step p s.machine ≡ st → is_ill st ≡ false
        → (is_dump st && eqb room 0) ≡ false → Joined n s (suc limit) room (taken s.machine (course p limit) room st)
    unfolding taken stepped is_ill is_dump Because Does
    taken_joins limit room ih h (succeeds m') e i d =
        let k = open_next s.machine m' s.open_calls c _ (rw e at (anywhere p s.machine)).called in
        next limit room room untrapped m' [] _ h (ap (stepped s _) e) k (λ t m f. absurd (let z : ◌≡◌ {A = ℕ} 0 1 = cc in omega arith)) (zero-add room)
        (λ l. ih room (suc n) _)
    taken_joins limit room ih h (outputs cell m') e i d =
        let k = open_next s.machine m' s.open_calls c _ (rw e at (anywhere p s.machine)).called in
        next limit (room - 1) room untrapped m' (cell ∷ []) _ h (ap (stepped s _) e) k (λ t m f. absurd (let z : ◌≡◌ {A = ℕ} 0 1 = cc in omega arith))
        (one_more room (eqb-false room 0 d)) (λ l. ih (room - 1) (suc n) _)
      where
        one_more : (r : ℕ) → (r ≡ 0 → ⊥) → 1 + (r - 1) ≡ r
        one_more zero z = absurd (z refl)
        one_more (suc r) z = omega arith
    taken_joins limit room ih h (trap t m') e i d =
        let l = rw e at (anywhere p s.machine) in
        let k = open_trap s.machine m' s.open_calls c _ t l.0.calls_are l.1 in
        next limit room room (trapped t) m' [] _ h (ap (stepped s _) e) k (λ u m f. (refl, (cc))) (zero-add room)
        (λ l g x. joined_ended (suc n) _ limit room (Number t) g x (is_trap n s (sym (add-zero (suc n))) q e))
    taken_joins limit room ih h ill e i d = never (sym i)

    -- before the step the run ends, or the step is taken
    turn_joins : (limit room : ℕ) (rest : ℕ → Machine → Course)
        → ((limit ≡ 0 → ⊥) → s.machine.halted ≡ false → is_ill (step p s.machine) ≡ false → (is_dump (step p s.machine) && eqb room 0) ≡ false
        → Joined n s limit room (taken s.machine rest room (step p s.machine)))
        → Joined n s limit room (turn s.machine rest room (step p s.machine) (before s.machine limit room (step p s.machine)))
    unfolding turn before Because
    turn_joins limit room rest f =
        let m = s.machine in
        let st = step p m in
        let P : Before → Type 0 = λ b. Joined n s limit room (turn m rest room st b) in
        by_test P m.halted _ _ (λ h. joined_ended n s limit room Halted q c h) λ h.
        by_test P (eqb limit 0) _ _ (λ z. joined_ended n s limit room Limit q c (h, ap (λ (x : ℕ). n + x) (sym (eqb-true limit 0 z)))) λ z.
        let l : n + 0 < n + limit = positive limit (eqb-false limit 0 z) in
        by_test P (is_ill st) _ _ (λ i. joined_ended n s limit room (Number 34) q c (is_ill_lem refl (ill_is st i) h l)) λ i.
        by_test P (is_dump st && eqb room 0) _ _
        (λ d. joined_ended n s limit room (Number 33) q c (is_full refl (and_left _ _ d) (sym (eqb-true room 0 (and_right (is_dump st) _ d))) h l))
        (λ d. f (eqb-false limit 0 z) h i d)
      where
        positive : (l : ℕ) → (l ≡ 0 → ⊥) → n + 0 < n + l
        positive zero z = absurd (z refl)
        positive (suc l) z = omega arith

  pub joins : (limit : ℕ) → Joins limit
  unfolding course
  joins zero room n s q c = turn_joins n s q c 0 room (λ (r : ℕ). ended Limit) (λ z. absurd (z refl))
  joins (suc limit) room n s q c = turn_joins n s q c (suc limit) room (course p limit) (λ z h. taken_joins n s q c limit room (joins limit) h (step p s.machine) refl)

-- the front of the buffer is the cells dumped, and the rest is as it was
module _ (cells buffer : List ℕ) (fits : length cells ≤ length buffer) where
  pub front : take (length cells) (sets buffer 0 cells) ≡ cells
  front = rw (filled cells buffer fits) (take-append_seam cells (drop (length cells) buffer))

  pub rest : drop (length cells) (sets buffer 0 cells) ≡ drop (length cells) buffer
  rest = rw (filled cells buffer fits) (drop-append_seam cells (drop (length cells) buffer))

pub runs_are_histories : RunsAreHistories
unfolding run reported history
runs_are_histories p s q c =
    let r = course p q.limit (length q.buffer) s.machine in
    let j = joins p s q.limit (length q.buffer) 0 s refl c in
    record {
      last = j.last;
      history_is = rw zero-add at j.history_is;
      machine_is = sym j.machine_is;
      size_is = length-sets q.buffer 0 r.cells;
      dumps_are = j.dumps_are ∙ ap (λ (x : List ℕ). s.dumps ++ x) (sym (front r.cells q.buffer j.fits));
      rest_is = rest r.cells q.buffer j.fits;
      within = j.within;
      fits = j.fits;
      because = because_as p s r.machine _ _ _ _ _ _ _ _ (zero-add r.steps) (zero-add q.limit) (λ e. e) r.ending j.because;
      trap_ends = λ k u t m l h e. let x = j.trap_ends k u t m (omega arith) (omega arith) h e in (omega (arith, x.0), x.1);
    }
