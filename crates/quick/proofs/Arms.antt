-- How an instruction's answer becomes a quick step's, and an arm the definition's. Assumes nothing.
use Prim.Native.Nat.{ℕ, ◌+◌}
use mathlib.Core.Path.{◌≡◌, refl, ◌∙◌, ap, sym}
use mathlib.Core.Bool.{Bool, true, false}
use mathlib.Core.List.{List, []}
use lib.Dec.{ltb}
use Rattle.inst.proofs.Laws.{never}
use Rattle.machine.specs.declared.Machine.{Machine}
use Rattle.machine.specs.Limits.{call_limit}
use Rattle.machine.specs.Change.{moved, onward, with_calls}
use Rattle.machine.specs.Lookup.{Found, leads_to}
use Rattle.machine.specs.Traps.{trap_number}
use Rattle.machine.specs.Step.{Stepped, succeeds, outputs, trap, ill, jump, call, call_to, ◌must◌else◌then◌}
use Rattle.tables.specs.Tables.{inst}
use Rattle.step_core.specs.declared.Registers.{Registers}
use Rattle.step_core.specs.declared.Executed.{Executed}
use Rattle.step_core.specs.declared.Executed.TheVariants.{Next, Compared, Dump, Halt, Trap, Ill}
use Rattle.step_core.specs.Parts.{height_of_calls, of_parts, Inside, Does, Acts}
use Rattle.step_core.proofs.Answers.{success}
use Rattle.std.specs.Prelude.{Option}
use Rattle.known.specs.Known.{looks_up}
use Rattle.quick.specs.Quick.{StepOrStop, success_of, step_at}

-- success without more
pub goes_on : {c : Registers} {s ca me : List ℕ} {answer : Executed} → answer ≡ Next (record { ip = c.ip + 1; height = c.height; call_height = height_of_calls c }) → Inside c →
    Acts (λ m. succeeds (onward m)) c s ca me answer s ca me
unfolding moved
goes_on e h = success e (λ f. refl) h

-- a jump whose target is known
pub goes_to : {t : ℕ} {c : Registers} {s ca me : List ℕ} {answer : Executed} → answer ≡ Next (record { ip = t; height = c.height; call_height = height_of_calls c }) → Inside c →
    Acts (jump (leads_to t)) c s ca me answer s ca me
unfolding jump moved
goes_to e h = success e (λ f. refl) h

-- whether a step is none that a run goes on from, and the call stack that it leaves
abbrev ends : Stepped → Bool
ends (succeeds m) = m.halted
ends (outputs x m) = true
ends (trap n m) = true
ends ill = true

abbrev calls_left : Stepped → List ℕ
calls_left (succeeds m) = m.calls
calls_left (outputs x m) = m.calls
calls_left (trap n m) = m.calls
calls_left ill = []

-- a CALL whose target is known fails only where the call stack is full, and leaves it then
module _ (t : ℕ) (c : Registers) (s ca me : List ℕ) where
  stays : (b : Bool) (e : Stepped) → ltb (height_of_calls c) call_limit ≡ b → e ≡ call (leads_to t) (of_parts c 0 s ca me false) → ends e ≡ true → calls_left e ≡ ca
  unfolding call call_to ◌must◌else◌then◌ moved with_calls
  stays true e l q h = never (ap ends (sym (rw l at q)) ∙ h)
  stays false e l q h = ap calls_left (rw l at q)

  kept : (e : Stepped) → e ≡ call (leads_to t) (of_parts c 0 s ca me false) → ends e ≡ true → calls_left e ≡ ca
  kept e = stays (ltb (height_of_calls c) call_limit) e refl

pub call_acts : (t : ℕ) {c : Registers} {s ca me ca' : List ℕ} (answer : Executed) → Does (call (leads_to t)) c s ca me answer s ca' me → Acts (call (leads_to t)) c s ca me answer s ca' me
call_acts t (Next n) a = record { does = a.does; small = a.small; kept = tt }
call_acts t (Compared n g) a = record { does = a.does; small = a.small; kept = tt }
call_acts t (Dump n x) a = record { does = a.does; small = a.small; kept = a.kept }
call_acts t {c} {s} {ca} {me} {ca'} (Halt n) a = record { does = a.does; small = a.small; kept = (refl, kept t c s ca me (succeeds (of_parts n 0 s ca' me true)) (a.does 0) refl, refl) }
call_acts t {c} {s} {ca} {me} {ca'} (Trap n x) a = record { does = a.does; small = a.small; kept = (refl, kept t c s ca me (trap (trap_number x) (of_parts n 0 s ca' me false)) (a.does 0) refl, refl) }
call_acts t Ill a = record { does = a.does; small = a.small; kept = a.kept }

-- of an answer only success counts
pub quickly : {i : Machine → Stepped} {c : Registers} {s ca me s' ca' me' : List ℕ} {answer : Executed} (f : ℕ) → Acts i c s ca me answer s' ca' me' →
    StepOrStop (i (of_parts c f s ca me false)) s ca me s' ca' me' (success_of answer f)
unfolding success_of
quickly {answer = Next n} f a = record { holds = (a.does f, a.small) }
quickly {answer = Compared n g} f a = record { holds = (a.does f, a.small) }
quickly {answer = Dump n x} f a = record { holds = a.kept }
quickly {answer = Halt n} f a = record { holds = a.kept }
quickly {answer = Trap n t} f a = record { holds = a.kept }
quickly {answer = Ill} f a = record { holds = a.kept }

-- the same for an equal step
pub as_is : {e e' : Stepped} {s ca me s' ca' me' : List ℕ} {r : Option (Registers × ℕ)} → e ≡ e' → StepOrStop e' s ca me s' ca' me' r → StepOrStop e s ca me s' ca' me' r
as_is q h = rw q h

module _ (found : Found) (v start len : ℕ) (m : Machine) (key n : ℕ) (e : key ≡ n) where
  -- an arm: at the key n
  pub at : step_at found (inst key v start len) m ≡ step_at found (inst n v start len) m
  at = ap (λ (k : ℕ). step_at found (inst k v start len) m) e

  -- an arm of a jump or CALL, whose lookup found t
  pub found_at : (t : ℕ) → looks_up n ≡ true → (looks_up key ≡ true → found ≡ leads_to t) →
      step_at found (inst key v start len) m ≡ step_at (leads_to t) (inst n v start len) m
  found_at t l finds =
      let x : looks_up key ≡ true = rw e l in
      at ∙ ap (λ (f : Found). step_at f (inst n v start len) m) (finds x)
