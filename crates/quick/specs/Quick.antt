-- What a quick step comes to: the definition's step where that is a success without a dump, or nothing.
use Rattle.std.specs.Prelude.{Option, Some, None, ℕ, ◌≡◌, true, false, cond, List, eqb}
use Rattle.inst.specs.declared.Inst.{Inst}
use Rattle.machine.specs.declared.Machine.{Machine}
use Rattle.machine.specs.Lookup.{Found, leads_to}
use Rattle.machine.specs.Step.{Stepped, succeeds, ill, exec, op_of}
use Rattle.tables.specs.Tables.{inst}
use Rattle.step_core.specs.declared.Registers.{Registers}
use Rattle.step_core.specs.declared.Executed.{Executed}
use Rattle.step_core.specs.declared.Executed.TheVariants.{Next, Compared, Dump, Halt, Trap, Ill}
use Rattle.step_core.specs.Parts.{of_parts, Inside}
use Rattle.known.specs.Known.{unknown, looks_up}

-- the step of a known instruction: the definition's; no success for a key that isn't known
unfoldable pub step_at : Found → Inst → Machine → Stepped
step_at found i m = cond (eqb i.typ unknown) ill (exec found i m (op_of i.typ))

-- the step is e's success; or none was made and the arrays are as before
abbrev pub IsStepOrStop : Stepped → List ℕ → List ℕ → List ℕ → List ℕ → List ℕ → List ℕ → Option (Registers × ℕ) → Type 0
IsStepOrStop e s ca me s' ca' me' (Some (n, g)) = (succeeds (of_parts n g s' ca' me' false) ≡ e) × Inside n
IsStepOrStop e s ca me s' ca' me' None = (s' ≡ s) × (ca' ≡ ca) × (me' ≡ me)

pub record StepOrStop (e : Stepped) (s ca me s' ca' me' : List ℕ) (r : Option (Registers × ℕ)) : Type 0 where
  pub holds : IsStepOrStop e s ca me s' ca' me' r

-- the instruction at the pointer, whose key and cell or number are these, and whose lookup finds t where it makes one
abbrev pub ExecutesKnown : ℕ → ℕ → ℕ → Registers → ℕ → List ℕ → List ℕ → List ℕ → Option (Registers × ℕ) → List ℕ → List ℕ → List ℕ → Type 0
ExecutesKnown key v t c f s ca me r s' ca' me' =
    (found : Found) (start len : ℕ) → (looks_up key ≡ true → found ≡ leads_to t) →
    StepOrStop (step_at found (inst key v start len) (of_parts c f s ca me false)) s ca me s' ca' me' r

-- of an answer only success counts
unfoldable pub success_of : Executed → ℕ → Option (Registers × ℕ)
success_of (Next n) f = Some (n, f)
success_of (Compared n g) f = Some (n, g)
success_of (Dump n x) f = None
success_of (Halt n) f = None
success_of (Trap n t) f = None
success_of Ill f = None
