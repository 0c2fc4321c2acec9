-- Runs joined after 33, and the one run with room for every cell. Assumes nothing.
use Prim.Native.Nat.{ℕ, zero, suc, ◌+◌, ◌-◌, ◌≤◌, ◌<◌}
use mathlib.Core.Path.{◌≡◌, refl, ap, ◌∙◌, sym}
use mathlib.Core.Bool.{Bool, true, false, cond, ◌&&◌}
use mathlib.Core.List.{List, [], ◌∷◌, append_assoc}
use native.Mathlib.Nat.{zero-add, suc-add, sub-zero, suc-sub-suc}
use native.Mathlib.Omega.{arith}
use lib.Dec.{eqb, ltb}
use lib.ListN.{length, length-append}
use Rattle.std.proofs.lemmas.Bool.{false_from_ne_true}
use borrow.Author.Tests.{eqb-true, eqb-false, ne_eqb, ltb-true, ltb-false}
use Rattle.inst.proofs.Laws.{never, and_right}
use Rattle.machine.specs.declared.Machine.{Machine}
use Rattle.machine.specs.Ending.{Ending, Halted, Limit, Number}
use Rattle.machine.specs.Lookup.{Program}
use Rattle.machine.specs.Step.{Stepped, succeeds, outputs, trap, ill, step}
use Rattle.machine.specs.Run.{Course, ended, after, is_ill, is_dump, Before, ends, goes_on, before, taken, turn, course}
use Rattle.machine.proofs.Does.{traps_leave}
use Rattle.transcript.specs.Transcript.{is_full, joined, continued, in_all}
use Rattle.transcript.specs.Theorems.{BufferUnseen}

pub by_bool : (P : Bool → Type 0) (b : Bool) → (b ≡ true → P true) → (b ≡ false → P false) → P b
by_bool P true f g = f refl
by_bool P false f g = g refl

-- one step more before the first of two runs
continued_after : (rest : ℕ → Machine → Course) (limit : ℕ) (cells : List ℕ) (r : Course) (b : Bool)
    → continued rest (suc limit) (after cells r) b ≡ after cells (continued rest limit r b)
unfolding continued
continued_after rest limit cells r true = rw (suc-sub-suc, suc-add, append_assoc)
continued_after rest limit cells r false = refl

-- the tests before a step
abbrev tests : Bool → Bool → Bool → Bool → Before
tests h z i d = cond h (ends Halted) (cond z (ends Limit) (cond i (ends (Number 34)) (cond d (ends (Number 33)) goes_on)))

before_dump : (m : Machine) (limit room : ℕ) (s : Stepped) → m.halted ≡ false → eqb limit 0 ≡ false → is_ill s ≡ false
    → before m limit room s ≡ cond (is_dump s && eqb room 0) (ends (Number 33)) goes_on
unfolding before
before_dump m limit room s h z i =
    let d = is_dump s && eqb room 0 in
    ap (λ b. tests b (eqb limit 0) (is_ill s) d) h ∙ ap (λ b. tests false b (is_ill s) d) z ∙ ap (λ b. tests false false b d) i

-- A run r with so much room counts no more cells than steps, and is the front of the run w that has so many slots more
module _ (p : Program) (extra : ℕ) where
  pub record Front (limit room : ℕ) (r w : Course) : Type 0 where
    pub within : r.steps ≤ limit
    pub fits : length r.cells ≤ room
    pub fewer : length r.cells ≤ r.steps
    pub full : is_full r.ending ≡ true → (length r.cells ≡ room) × (r.steps < limit)
    pub whole : w ≡ continued (λ l. course p l extra) limit r (is_full r.ending)

  front_ended : (limit room : ℕ) (e : Ending) (m : Machine) → is_full e ≡ false → Front limit room (ended e m) (ended e m)
  unfolding continued
  front_ended limit room e m f =
      record { within = omega arith; fits = omega arith; fewer = omega arith; full = λ t. never (sym f ∙ t); whole = rw f }

  front_after : (limit room room' : ℕ) (cells : List ℕ) (r w : Course) → length cells ≤ 1 → length cells + room ≡ room' → Front limit room r w
      → Front (suc limit) room' (after cells r) (after cells w)
  front_after limit room room' cells r w one e f =
      record {
        within = omega (arith, f.within);
        fits = rw length-append (omega (arith, f.fits));
        fewer = rw length-append (omega (arith, f.fewer));
        full = λ t. (length-append cells r.cells ∙ omega (arith, (f.full t).0), omega (arith, (f.full t).1));
        whole = ap (after cells) f.whole ∙ sym (continued_after (λ l. course p l extra) limit cells r (is_full r.ending));
      }

  -- 33 before the first step
  front_full : (limit : ℕ) (m : Machine) (w : Course) → w ≡ course p (suc limit) extra m → Front (suc limit) 0 (ended (Number 33) m) w
  unfolding continued is_full
  front_full limit m w e =
      record { within = omega arith; fits = omega arith; fewer = omega arith; full = λ t. (refl, omega arith); whole = rw (zero-add, sub-zero) e }

  abbrev Fronts : ℕ → Type 0
  Fronts limit = (room : ℕ) (m : Machine) → Front limit room (course p limit room m) (course p limit (room + extra) m)

  front_taken : (limit room : ℕ) (m : Machine) → Fronts limit → (s : Stepped) → step p m ≡ s → is_ill s ≡ false → (is_dump s && eqb room 0) ≡ false
      → Front (suc limit) room (taken m (course p limit) room s)
      (turn m (course p limit) (room + extra) s (cond (is_dump s && eqb (room + extra) 0) (ends (Number 33)) goes_on))
  unfolding taken turn is_ill is_dump is_full
  front_taken limit room m ih (succeeds m') e i d = front_after limit room room [] _ _ (omega arith) (zero-add room) (ih room m')
  front_taken limit room m ih (outputs c m') e i d =
      let z : room ≡ 0 → ⊥ = eqb-false room 0 d in
      let q : (room + extra) - 1 ≡ (room - 1) + extra = omega arith in
      rw (ne_eqb (room + extra) 0 (λ x. z (omega arith)), q) (front_after limit (room - 1) room (c ∷ []) _ _ (omega arith) (omega arith) (ih (room - 1) m'))
  front_taken limit room m ih (trap t m') e i d =
      front_after limit room room [] _ _ (omega arith) (zero-add room)
      (front_ended limit room (Number t) m' (ne_eqb t 33 (λ x. omega (arith, (traps_leave p m t m' e).number_to))))
  front_taken limit room m ih ill e i d = never (sym i)

  front_dump : (limit room : ℕ) (m : Machine) → Fronts limit → m.halted ≡ false → is_ill (step p m) ≡ false → (d : Bool) → (is_dump (step p m) && eqb room 0) ≡ d
      → Front (suc limit) room (turn m (course p limit) room (step p m) (cond d (ends (Number 33)) goes_on))
      (turn m (course p limit) (room + extra) (step p m) (cond (is_dump (step p m) && eqb (room + extra) 0) (ends (Number 33)) goes_on))
  unfolding turn course
  front_dump limit room m ih h i true d =
      let z : room ≡ 0 = eqb-true room 0 (and_right (is_dump (step p m)) _ d) in
      rw (z, zero-add) (front_full limit m _ (ap (turn m (course p limit) extra (step p m)) (sym (before_dump m (suc limit) extra (step p m) h (ne_eqb (suc limit) 0 (λ e. omega arith)) i))))
  front_dump limit room m ih h i false d = front_taken limit room m ih (step p m) refl i d

  -- both runs end before the step, or go on to 33
  front_turn : (limit room : ℕ) (m : Machine) (rest : ℕ → Machine → Course) (h z i d d' : Bool) → m.halted ≡ h → eqb limit 0 ≡ z → is_ill (step p m) ≡ i
      → (m.halted ≡ false → eqb limit 0 ≡ false → is_ill (step p m) ≡ false
      → Front limit room (turn m rest room (step p m) (tests false false false d)) (turn m rest (room + extra) (step p m) (tests false false false d')))
      → Front limit room (turn m rest room (step p m) (tests h z i d)) (turn m rest (room + extra) (step p m) (tests h z i d'))
  unfolding turn is_full
  front_turn limit room m rest true z i d d' eh ez ei f = front_ended limit room Halted m refl
  front_turn limit room m rest false true i d d' eh ez ei f = front_ended limit room Limit m refl
  front_turn limit room m rest false false true d d' eh ez ei f = front_ended limit room (Number 34) m refl
  front_turn limit room m rest false false false d d' eh ez ei f = f eh ez ei

  pub fronts : (limit : ℕ) → Fronts limit
  unfolding course before
  fronts zero room m = front_turn 0 room m (λ (r : ℕ). ended Limit) _ _ _ (is_dump (step p m) && eqb room 0) (is_dump (step p m) && eqb (room + extra) 0) refl refl refl (λ h z i. never (sym z))
  fronts (suc limit) room m =
      front_turn (suc limit) room m (course p limit) _ _ _ (is_dump (step p m) && eqb room 0) (is_dump (step p m) && eqb (room + extra) 0) refl refl refl (λ h z i. front_dump limit room m (fronts limit) h i _ refl)

module _ (p : Program) where
  -- with as much room as steps no run ends with 33, and more room changes nothing
  pub enough : (limit room : ℕ) (m : Machine) → limit ≤ room → course p limit room m ≡ course p limit limit m
  unfolding continued
  enough limit room m h =
      let f = fronts p (room - limit) limit limit m in
      let e : limit + (room - limit) ≡ room = omega arith in
      let n : is_full (course p limit limit m).ending ≡ false = false_from_ne_true _ (λ t. omega (arith, (f.full t).0, (f.full t).1, f.fewer)) in
      rw (← e) (f.whole ∙ rw n)

  -- one run with room for every cell is a run with less, continued after 33
  pub one_run : (room limit : ℕ) (m : Machine) → 0 < room
      → course p limit limit m ≡ continued (λ l. course p l l) limit (course p limit room m) (is_full (course p limit room m).ending)
  unfolding continued
  one_run room limit m h = by_full _ refl
    where
      r : Course
      r = course p limit room m

      fits_in : room ≤ limit → (b : Bool) → is_full r.ending ≡ b → course p limit limit m ≡ continued (λ l. course p l (limit - room)) limit r b
      fits_in l b e = let n : room + (limit - room) ≡ limit = omega arith in rw e at (rw n at (fronts p (limit - room) limit room m).whole)

      by_full : (b : Bool) → is_full r.ending ≡ b → course p limit limit m ≡ continued (λ l. course p l l) limit r b
      by_full true e =
          let f = fronts p 0 limit room m in
          let n = f.full e in
          fits_in (omega (arith, n.0, n.1, f.fewer)) true e ∙ ap (joined r) (enough (limit - r.steps) (limit - room) r.machine (omega (arith, n.0, f.fewer)))
      by_full false e =
          by_bool (λ _. course p limit limit m ≡ r) (ltb room limit) (λ l. fits_in (omega (arith, ltb-true room limit l)) false e)
          (λ l. sym (enough limit room m (ltb-false room limit l)))

  unseen : (fuel room limit : ℕ) (m : Machine) → 0 < room → limit ≤ fuel → in_all fuel p room limit m ≡ course p limit limit m
  unfolding in_all continued
  unseen zero room limit m h l = enough limit room m (omega arith)
  unseen (suc fuel) room limit m h l = same_rest (λ l' m'. unseen fuel room l' m' h) _ refl ∙ sym (one_run room limit m h)
    where
      r : Course
      r = course p limit room m

      same_rest : ((l' : ℕ) (m' : Machine) → l' ≤ fuel → in_all fuel p room l' m' ≡ course p l' l' m')
          → (b : Bool) → is_full r.ending ≡ b → continued (in_all fuel p room) limit r b ≡ continued (λ l. course p l l) limit r b
      same_rest ih true e =
          let f = fronts p 0 limit room m in
          let n = f.full e in
          ap (joined r) (ih (limit - r.steps) r.machine (omega (arith, n.0, f.fewer)))
      same_rest ih false e = refl

pub buffer_unseen : BufferUnseen
buffer_unseen p room limit m h = unseen p limit room limit m h (omega arith)
