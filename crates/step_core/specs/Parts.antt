-- How the parts that the code works on make up the definitions' machine, and its answers the definitions'. No behaviour is in it.
use Rattle.std.specs.Prelude.{ℕ, ◌≤◌, ◌≡◌, List, Bool, true, false, Result, Ok, Err}
use Rattle.machine.specs.declared.Machine.{Machine}
use Rattle.machine.specs.Limits.{stack_limit, call_limit}
use Rattle.machine.specs.Lookup.{Found, ill_chain, no_label, leads_to}
use Rattle.machine.specs.Traps.{trap_number}
use Rattle.machine.specs.Step.{Stepped, succeeds, outputs, trap, ill}
use Rattle.step_core.specs.declared.Registers.{Registers}
use Rattle.step_core.specs.declared.Executed.{Executed}
use Rattle.step_core.specs.declared.Executed.TheVariants.{Next, Compared, Dump, Halt, Trap, Ill}
use Rattle.step_core.specs.declared.LookupError.{LookupError}
use Rattle.step_core.specs.declared.LookupError.TheVariants.{NoLabel, IllChain}

-- the call height; a field's name with a line in it is written in marks
abbrev pub height_of_calls : Registers → ℕ
height_of_calls c = c.call_height

-- the machine of the registers c, the flags f, the arrays of the data stack, the call stack and the memory, and halted
abbrev pub of_parts : Registers → ℕ → List ℕ → List ℕ → List ℕ → Bool → Machine
of_parts c f s ca me h =
    record { stack = s; height = c.height; calls = ca; call_height = height_of_calls c; memory = me; flags = f; ip = c.ip; halted = h }

-- pointer and heights of a machine
abbrev pub registers_of : Machine → Registers
registers_of m = record { ip = m.ip; height = m.height; call_height = m.call_height }

-- what an answer to a step with the flags f means, with the arrays that it leaves
abbrev pub means : ℕ → Executed → List ℕ → List ℕ → List ℕ → Stepped
means f (Next n) s ca me = succeeds (of_parts n f s ca me false)
means f (Compared n g) s ca me = succeeds (of_parts n g s ca me false)
means f (Dump n x) s ca me = outputs x (of_parts n f s ca me false)
means f (Halt n) s ca me = succeeds (of_parts n f s ca me true)
means f (Trap n t) s ca me = trap (trap_number t) (of_parts n f s ca me false)
means f Ill s ca me = ill

-- heights within their limits, which every step keeps
abbrev pub Inside : Registers → Type 0
Inside c = (c.height ≤ stack_limit) × (height_of_calls c ≤ call_limit)

-- where a run goes on, the heights are within their limits
abbrev pub Small : Executed → Type 0
Small (Next n) = Inside n
Small (Compared n g) = Inside n
Small (Dump n x) = Inside n
Small (Halt n) = Unit
Small (Trap n t) = Unit
Small Ill = Unit

-- P holds of whatever isn't success
abbrev pub Otherwise : Executed → Type 0 → Type 0
Otherwise (Next n) P = Unit
Otherwise (Compared n g) P = Unit
Otherwise (Dump n x) P = P
Otherwise (Halt n) P = P
Otherwise (Trap n t) P = P
Otherwise Ill P = P

-- P holds where the step may not be taken: 34, and a dump, which 33 refuses
abbrev pub Untaken : Executed → Type 0 → Type 0
Untaken (Next n) P = Unit
Untaken (Compared n g) P = Unit
Untaken (Dump n x) P = P
Untaken (Halt n) P = Unit
Untaken (Trap n t) P = Unit
Untaken Ill P = P

-- the answer r does to the machine of c and these arrays what the instruction i does, whatever the flags; s' and so on are left. Where no step
-- is taken they are as before
pub record Does (i : Machine → Stepped) (c : Registers) (s ca me : List ℕ) (r : Executed) (s' ca' me' : List ℕ) : Type 0 where
  pub does : (f : ℕ) → means f r s' ca' me' ≡ i (of_parts c f s ca me false)
  pub small : Small r
  pub kept : Untaken r ((s' ≡ s) × (ca' ≡ ca) × (me' ≡ me))

-- and whatever isn't success has changed none of the arrays
pub record Acts (i : Machine → Stepped) (c : Registers) (s ca me : List ℕ) (r : Executed) (s' ca' me' : List ℕ) : Type 0 where
  pub does : (f : ℕ) → means f r s' ca' me' ≡ i (of_parts c f s ca me false)
  pub small : Small r
  pub kept : Otherwise r ((s' ≡ s) × (ca' ≡ ca) × (me' ≡ me))

-- an instruction that sees only some arrays: whatever the others are
abbrev pub OnRegisters : (Machine → Stepped) → Registers → Executed → Type 0
OnRegisters i c r = (s ca me : List ℕ) → Acts i c s ca me r s ca me

abbrev pub OnStack : (Machine → Stepped) → Registers → List ℕ → Executed → List ℕ → Type 0
OnStack i c s r s' = (ca me : List ℕ) → Acts i c s ca me r s' ca me

-- the data stack and the memory
abbrev pub OnBoth : (Machine → Stepped) → Registers → List ℕ → List ℕ → Executed → List ℕ → List ℕ → Type 0
OnBoth i c s me r s' me' = (ca : List ℕ) → Acts i c s ca me r s' ca me'

abbrev pub OnCalls : (Machine → Stepped) → Registers → List ℕ → Executed → List ℕ → Type 0
OnCalls i c ca r ca' = (s me : List ℕ) → Acts i c s ca me r s ca' me

-- CALL alone can trap with its array changed: 27 leaves the address stacked
abbrev pub OnCalling : (Machine → Stepped) → Registers → List ℕ → Executed → List ℕ → Type 0
OnCalling i c ca r ca' = (s me : List ℕ) → Does i c s ca me r s ca' me

-- what a lookup answers: the index that the label leads to, or why there is none
abbrev pub LookedUp : Type 0
LookedUp = Result ℕ LookupError

-- what was found by it
abbrev pub found_of : LookedUp → Found
found_of (Ok t) = leads_to t
found_of (Err NoLabel) = no_label
found_of (Err IllChain) = ill_chain
