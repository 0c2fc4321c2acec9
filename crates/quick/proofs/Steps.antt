-- A quick step is a step of the definitions, and one turn of the course. Assumes nothing.
use Prim.Native.Nat.{ℕ, suc, ◌+◌, ◌-◌, ◌*◌, ◌<◌, ◌≤◌}
use mathlib.Core.Path.{◌≡◌, refl, ◌∙◌, ap, sym}
use mathlib.Core.Bool.{true, false}
use mathlib.Core.List.{List, []}
use native.Mathlib.Omega.{arith}
use lib.ListN.{get_or}
use borrow.Author.Tests.{le-leb, lt-ltb, eq-eqb, ne_eqb}
use Rattle.inst.specs.declared.Inst.{Inst}
use Rattle.machine.specs.declared.Machine.{Machine}
use Rattle.machine.specs.Limits.{stack_limit, call_limit}
use Rattle.machine.specs.Change as change
use Rattle.machine.specs.Lookup.{Program, leads_to, lookup}
use Rattle.machine.specs.Step.{Stepped, succeeds, ill, exec, op_of, step, well_state}
use Rattle.machine.specs.Run.{Course, course, turn, before, taken, is_ill, is_dump, after}
use Rattle.quick.proofs.Turns.{course_turn, before_on}
use Rattle.tables.specs.Tables.{number_at, inst, inst_of}
use Rattle.step_core.specs.declared.Registers.{Registers}
use Rattle.step_core.specs.Parts.{of_parts, Inside}
use Rattle.std.specs.Prelude.{Some}
use Rattle.known.specs.declared.Known.{Known}
use Rattle.known.specs.Known.{known_limit, unknown, KnownAt, Over, AllKnown}
use Rattle.known.proofs.Records.{inst_is, within}
use Rattle.quick.specs.Quick.{StepOrStop, ExecutesKnown, step_at}
use Rattle.quick.specs.Courses.{plus, Leads}

module _ (p : Program) (xs : List ℕ) (o : Over p xs) (m : Machine) where
  module _ (key t : ℕ) (k : KnownAt p xs key t m.ip) where
    -- the record with its key
    keyed : inst_of xs m.ip ≡ inst key (number_at xs (m.ip * 4 + 1)) (number_at xs (m.ip * 4 + 2)) (number_at xs (m.ip * 4 + 3))
    keyed = ap (λ (n : ℕ). inst n (number_at xs (m.ip * 4 + 1)) (number_at xs (m.ip * 4 + 2)) (number_at xs (m.ip * 4 + 3))) k.typ_is

    module _ (h : m.height ≤ stack_limit) (d : change.height_of_calls m ≤ call_limit) where
      well : well_state p m ≡ true
      unfolding well_state
      well = rw (le-leb _ _ h, le-leb _ _ d, lt-ltb _ _ k.below, le-leb _ _ (within p xs o m), inst_is p xs o m k.below, k.formed)

      -- a known instruction's step
      pub known_step :
          step p m ≡ exec (lookup p (inst_of xs m.ip)) (inst key (number_at xs (m.ip * 4 + 1)) (number_at xs (m.ip * 4 + 2)) (number_at xs (m.ip * 4 + 3))) m (op_of key)
      unfolding step
      known_step = rw well (rw (inst_is p xs o m k.below) (ap (λ (i : Inst). exec (lookup p (inst_of xs m.ip)) i m (op_of i.typ)) keyed))

-- a step that succeeds is one turn
success_turn : (p : Program) (left room : ℕ) (m m' : Machine) → 0 < left → m.halted ≡ false → step p m ≡ succeeds m' →
    course p left room m ≡ after [] (course p (left - 1) room m')
unfolding taken turn is_ill is_dump
success_turn p left room m m' l h e =
    course_turn p left room m l
    ∙ ap (λ (s : Stepped). turn m (course p (left - 1)) room s (before m left room s)) e
    ∙ ap (turn m (course p (left - 1)) room (succeeds m')) (before_on m left room (succeeds m') h l refl refl)

plus_none : (r : Course) → plus 0 r ≡ r
plus_none r = let e : 0 + r.steps ≡ r.steps = omega arith in ap (λ (n : ℕ). record { machine = r.machine; ending = r.ending; steps = n; cells = r.cells }) e

plus_more : (k k' : ℕ) (r : Course) → k' ≡ k + 1 → plus k (after [] r) ≡ plus k' r
plus_more k k' r h =
    let e : k + suc r.steps ≡ k' + r.steps = omega arith in
    ap (λ (n : ℕ). record { machine = r.machine; ending = r.ending; steps = n; cells = r.cells }) e

-- what an entry holds, by its index
module _ {k known : Known} {at ip : ℕ} (e : (k ≡ known) × (at ≡ ip)) where
  pub key_is : get_or k.keys at 0 ≡ get_or known.keys ip 0
  key_is = ap (λ (n : Known). get_or n.keys at 0) e.0 ∙ ap (λ (i : ℕ). get_or known.keys i 0) e.1

  pub target_is : get_or k.targets at 0 ≡ get_or known.targets ip 0
  target_is = ap (λ (n : Known). get_or n.targets at 0) e.0 ∙ ap (λ (i : ℕ). get_or known.targets i 0) e.1

module _ (xs : List ℕ) (known : Known) where
  -- no step was made yet
  pub begun : (c : Registers) (f steps : ℕ) (s ca me : List ℕ) → Inside c →
      Leads xs known (of_parts c f s ca me false) steps (record { regs = c; left = steps; flags = f }) s ca me
  begun c f steps s ca me h =
      record {
        leads = λ p o k room. let e : steps - steps ≡ 0 = omega arith in ap (λ (n : ℕ). plus n (course p steps room (of_parts c f s ca me false))) e ∙ plus_none _;
        small = h;
        fewer = omega arith;
      }

  module _ (m₀ : Machine) (steps : ℕ) (c : Registers) (f left : ℕ) (s ca me : List ℕ)
      (inv : Leads xs known m₀ steps (record { regs = c; left = left; flags = f }) s ca me) where
    -- no more steps are made
    pub stopped_at : (s' ca' me' : List ℕ) → (s' ≡ s) × (ca' ≡ ca) × (me' ≡ me) →
        Leads xs known m₀ steps (record { regs = c; left = left; flags = f }) s' ca' me'
    stopped_at s' ca' me' e = rw (e.0, e.1, e.2) inv

    -- one more was made
    module _ (l : 0 < left) (h : c.ip < known_limit) (n : Registers) (g : ℕ) (s' ca' me' : List ℕ)
        (q : ExecutesKnown (get_or known.keys c.ip 0) (number_at xs (c.ip * 4 + 1)) (get_or known.targets c.ip 0) c f s ca me (Some (n, g)) s' ca' me') where
      any : StepOrStop (step_at (leads_to (get_or known.targets c.ip 0)) (inst (get_or known.keys c.ip 0) (number_at xs (c.ip * 4 + 1)) 0 0) (of_parts c f s ca me false)) s ca me s' ca' me' (Some (n, g))
      any = q (leads_to (get_or known.targets c.ip 0)) 0 0 (λ _. refl)

      is_known : get_or known.keys c.ip 0 ≡ unknown → ⊥
      unfolding step_at
      is_known e =
          let bad : succeeds (of_parts n g s' ca' me' false) ≡ ill = simp (eq-eqb _ _ e) at any.holds.0 in
          let z : ◌≡◌ {A = ℕ} 0 1 = cc in
          omega arith

      stepped : (p : Program) → Over p xs → AllKnown p xs known → step p (of_parts c f s ca me false) ≡ succeeds (of_parts n g s' ca' me' false)
      unfolding step_at
      stepped p o k =
          let a = k c.ip h is_known in
          let d = simp (ne_eqb _ _ is_known) at (q (lookup p (inst_of xs c.ip)) (number_at xs (c.ip * 4 + 2)) (number_at xs (c.ip * 4 + 3)) a.target_is).holds.0 in
          known_step p xs o (of_parts c f s ca me false) (get_or known.keys c.ip 0) (get_or known.targets c.ip 0) a inv.small.0 inv.small.1 ∙ sym d

      pub success_on : Leads xs known m₀ steps (record { regs = n; left = left - 1; flags = g }) s' ca' me'
      success_on =
          record {
            leads = λ p o k room.
                sym (plus_more (steps - left) (steps - (left - 1)) (course p (left - 1) room (of_parts n g s' ca' me' false)) (omega (arith, inv.fewer)))
                ∙ ap (plus (steps - left)) (sym (success_turn p left room (of_parts c f s ca me false) (of_parts n g s' ca' me' false) l refl (stepped p o k)))
                ∙ inv.leads p o k room;
            small = any.holds.1;
            fewer = omega (arith, inv.fewer);
          }
