-- The general step by its tests. Assumes nothing.
use Prim.Native.Nat.{ℕ, ◌+◌, ◌*◌, ◌<◌, ◌≤◌}
use mathlib.Core.Path.{◌≡◌, refl, ◌∙◌, sym, ap}
use mathlib.Core.Bool.{Bool, true, false, ◌&&◌, ◌||◌}
use mathlib.Core.List.{List}
use native.Mathlib.Omega.{arith}
use lib.Dec.{eqb, leb}
use lib.ListN.{length}
use borrow.Author.Tests.{le-leb, lt-leb, ne_eqb, lt-ltb, le-ltb, leb-true, eqb-true}
use Rattle.inst.specs.Forms.{name, form_of, has_none, has_eight, has_one, has_name}
use Rattle.inst.specs.declared.Inst.{Inst}
use Rattle.inst.specs.Records.{name_in, fits, well_formed}
use Rattle.inst.proofs.Laws.{and_left, and_right}
use Rattle.machine.specs.declared.Label.{Label}
use Rattle.machine.specs.declared.Machine.{Machine}
use Rattle.machine.specs.Lookup.{Program, Found, leads_to, lookup}
use Rattle.machine.specs.Step.{Stepped, ill, exec, op_of, step, well_state}
use Rattle.tables.specs.Tables.{number_at, insts_of, inst_of}
use Rattle.step_core.specs.declared.Registers.{Registers}
use Rattle.step_core.specs.declared.Executed.{Executed}
use Rattle.step_core.specs.declared.Executed.TheVariants.{Next, Compared, Dump, Halt, Trap, Ill}
use Rattle.std.specs.Borrow.{Bor}
use Rattle.std.specs.Prelude.{Option, Some, None, Ok, Err, IfOk, IsSome, MatchOption}
use Rattle.step_core.specs.Parts.{found_of, of_parts, Inside, Acts, LookedUp}
use Rattle.lookup.specs.Walks.{lent_program}
use Rattle.known.specs.Known.{looks_up, Listed, Over}
use Rattle.known.proofs.Records.{inst_is, within}
use Rattle.step.specs.Steps.{Lent, Made, Tries}

-- what holds of every target that was found
pub at_target : (found : LookedUp) (Q : ℕ → Type 0) → ((t : ℕ) → found_of found ≡ leads_to t → Q t) → IfOk found Q
at_target (Ok t) Q h = h t refl
at_target (Err e) Q h = tt

-- what looks up has a name
named_from : (op : ℕ) → 12 ≤ op → op ≤ 20 → form_of op ≡ name
unfolding form_of has_none has_eight has_one has_name
named_from op a b =
    simp (
      ne_eqb op 0 (λ e. omega arith),
      le-leb 2 op (omega arith),
      lt-leb op 9 (omega arith),
      lt-leb 22 op (omega arith),
      ne_eqb op 29 (λ e. omega arith),
      lt-leb 31 op (omega arith),
      lt-leb 38 op (omega arith),
      ne_eqb op 69 (λ e. omega arith),
      ne_eqb op 1 (λ e. omega arith),
      ne_eqb op 10 (λ e. omega arith),
      ne_eqb op 11 (λ e. omega arith),
      ne_eqb op 27 (λ e. omega arith),
      ne_eqb op 46 (λ e. omega arith),
      le-leb 12 op a,
      le-leb op 21 (omega arith),
    )

is_named : (op : ℕ) (b : Bool) → eqb op 28 ≡ b → (b || (leb 12 op && leb op 20)) ≡ true → form_of op ≡ name
unfolding form_of has_none has_eight has_one has_name
is_named op true p h = rw (eqb-true op 28 p) refl
is_named op false p h = named_from op (leb-true 12 op (and_left (leb 12 op) (leb op 20) h)) (leb-true op 20 (and_right (leb 12 op) (leb op 20) h))

-- the name of a jump or CALL lies in the image
module _ (image : List ℕ) (i : Inst) (w : well_formed image i ≡ true) (l : looks_up i.typ ≡ true) where
  pub name_lies : name_in image i.start i.len ≡ true
  unfolding well_formed fits
  name_lies = and_right (eqb i.val 0) _ (rw (is_named i.typ (eqb i.typ 28) refl l) at w)

  -- so its part of the image is there
  pub name_is_some : (r : Option (Bor (List ℕ))) (Q : Bor (List ℕ) → Type 0) → MatchOption r (length image < i.start + i.len) Q → IsSome r
  unfolding name_in
  name_is_some None Q h = absurd (omega (arith, h, leb-true _ _ (and_left (leb (i.start + i.len) (length image)) _ name_lies)))
  name_is_some (Some p) Q h = refl

-- an instruction's answer, with these flags
pub acted : {i : Machine → Stepped} {c : Registers} {s ca me s' ca' me' : List ℕ} (f : ℕ) (r : Executed) → Acts i c s ca me r s' ca' me' →
    Made (i (of_parts c f s ca me false)) f s ca me r s' ca' me'
acted f (Next n) a = record { does = a.does f; small = a.small; kept = tt }
acted f (Compared n g) a = record { does = a.does f; small = a.small; kept = tt }
acted f (Dump n x) a = record { does = a.does f; small = a.small; kept = a.kept }
acted f (Halt n) a = record { does = a.does f; small = a.small; kept = tt }
acted f (Trap n t) a = record { does = a.does f; small = a.small; kept = tt }
acted f Ill a = record { does = a.does f; small = a.small; kept = a.kept }

-- and for an equal step
pub as_is : {e e' : Stepped} {f : ℕ} {s ca me s' ca' me' : List ℕ} {r : Executed} → Made e f s ca me r s' ca' me' → e ≡ e' → Made e' f s ca me r s' ca' me'
as_is a q = rw (← q) a

-- 34, with nothing changed
pub is_ill : {image xs : List ℕ} {count : ℕ} {c : Registers} {f : ℕ} {asked : Option LookedUp} {a : Lent} →
    ((labels : List Label) → ill ≡ step (lent_program image (insts_of xs) labels count) (of_parts c f a.stack a.calls a.memory false)) →
    Tries image xs count c f asked a (Ok Ill) a
is_ill h = record { small = tt; listed = λ n up l. l; tried = λ labels told. (record { does = h labels; small = tt; kept = (refl, refl, refl) }, λ k. k) }

-- a lent program is over its table
pub over : {image xs : List ℕ} {labels : List Label} {count : ℕ} → count * 32 ≤ length xs → Over (lent_program image (insts_of xs) labels count) xs
over h = record { table = refl; inside = h }

module _ {p : Program} {xs : List ℕ} (o : Over p xs) {c : Registers} (f : ℕ) (s ca me : List ℕ) (small : Inside c) where
  pub step_past : p.count ≤ c.ip → ill ≡ step p (of_parts c f s ca me false)
  unfolding step well_state
  step_past h = rw (le-leb _ _ small.0, le-leb _ _ small.1, le-ltb _ _ h) refl

  module _ (below : c.ip < p.count) where
    pub step_unformed : well_formed p.image (inst_of xs c.ip) ≡ false → ill ≡ step p (of_parts c f s ca me false)
    unfolding step well_state
    step_unformed w =
        rw (le-leb _ _ small.0, le-leb _ _ small.1, lt-ltb _ _ below, le-leb _ _ (within p xs o (of_parts c f s ca me false)), inst_is p xs o (of_parts c f s ca me false) below, w) refl

    module _ (formed : well_formed p.image (inst_of xs c.ip) ≡ true) where
      step_is : step p (of_parts c f s ca me false) ≡ exec (lookup p (inst_of xs c.ip)) (inst_of xs c.ip) (of_parts c f s ca me false) (op_of (number_at xs (c.ip * 4)))
      unfolding step well_state
      step_is =
          rw (le-leb _ _ small.0, le-leb _ _ small.1, lt-ltb _ _ below, le-leb _ _ (within p xs o (of_parts c f s ca me false)), inst_is p xs o (of_parts c f s ca me false) below, formed) refl

      module _ {r : Executed} {s' ca' me' : List ℕ} where
        -- a jump or CALL, of which `found` was found
        pub made_found : {found : Found} → found ≡ lookup p (inst_of xs c.ip) →
            Made (exec found (inst_of xs c.ip) (of_parts c f s ca me false) (op_of (number_at xs (c.ip * 4)))) f s ca me r s' ca' me' →
            Made (step p (of_parts c f s ca me false)) f s ca me r s' ca' me'
        made_found e a = as_is a (ap (λ (g : Found). exec g (inst_of xs c.ip) (of_parts c f s ca me false) (op_of (number_at xs (c.ip * 4)))) e ∙ sym step_is)

        -- any other instruction
        pub made_acts : Acts (λ (m : Machine). exec (lookup p (inst_of xs c.ip)) (inst_of xs c.ip) m (op_of (number_at xs (c.ip * 4)))) c s ca me r s' ca' me' →
            Made (step p (of_parts c f s ca me false)) f s ca me r s' ca' me'
        made_acts a = as_is (acted f r a) (sym step_is)
