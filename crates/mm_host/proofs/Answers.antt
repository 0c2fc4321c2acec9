-- What the calls of the loader and of the run answer, as the host's calls answer it.
use Prim.Native.Nat.{ℕ, ◌-◌}
use mathlib.Core.Path.{◌≡◌, refl}
use mathlib.Core.Bool.{Bool, true, false, cond}
use mathlib.Core.Logic.{◌≢◌}
use mathlib.Core.List.{List}
use lib.ListN.{length}
use borrow.Author.Tests.{eq-eqb, ne_eqb}
use Rattle.machine.specs.declared.Machine.{Machine}
use Rattle.machine.specs.Load.{Load, rejects, accepts}
use Rattle.std.specs.Prelude.{Result, Ok, Err, Some, None}
use Rattle.loader.specs.declared.Accepted.{Accepted}
use Rattle.loader.specs.declared.refusal.Refusal.{Refusal}
use Rattle.loader.specs.Refusals.{number_of}
use Rattle.loader.specs.Loading.{FromBinary, means, reply_of, fresh_at, insts_left, labels_left}
use Rattle.step_core.specs.declared.Registers.{Registers}
use Rattle.step_core.specs.Parts.{of_parts, registers_of}
use Rattle.tables.specs.Tables.{labels_of}
use Rattle.run.specs.declared.progress.Outcome.{Outcome}
use Rattle.run.specs.Turns.{is_halted}
use Rattle.run.specs.Runs.{ExecuteParts}
use Rattle.machine.specs.Ending.{ending_number, ending_of}
use Rattle.machine_bytes.specs.Layout.{machine_size, is_machine, machine_of, machine_bytes}
use Rattle.mm_host.specs.Calls.{loaded_numbers, loaded_by, load_call, ran_by, run_call}

-- what a load leaves in the machine's bytes
abbrev pub machine_left : Result Accepted Refusal → List ℕ → List ℕ
machine_left (Ok a) machine = machine_bytes (fresh_at a.ip)
machine_left (Err e) machine = machine

pub left_refused : {r : Result Accepted Refusal} (machine : List ℕ) → ((a : Accepted) → r ≡ Ok a → ⊥) → machine ≡ machine_left r machine
left_refused {r = Ok a} machine n = absurd (n a refl)
left_refused {r = Err e} machine n = refl

-- the call that loads answers as the loader does
loaded_as : (o : Load) (r : Result Accepted Refusal) (insts labels machine : List ℕ) → means r ≡ reply_of o →
    loaded_by o insts labels machine ≡ record { number = (loaded_numbers r).number; count = (loaded_numbers r).count; insts = insts_left o insts; labels = labels_left o labels; machine = machine_left r machine }
unfolding loaded_by means reply_of insts_left labels_left
loaded_as (rejects k) (Err x) insts labels machine e = let d : k ≡ number_of x = cc in rw d
loaded_as (rejects k) (Ok a) insts labels machine e = cc
loaded_as (accepts l) (Err x) insts labels machine e = cc
loaded_as (accepts l) (Ok a) insts labels machine e = cc

pub load_answered : {image insts labels : List ℕ} (machine : List ℕ) (r : Result Accepted Refusal) {insts' labels' machine' : List ℕ} → length machine ≡ machine_size → FromBinary image insts labels r insts' labels' →
    machine' ≡ machine_left r machine →
    load_call image insts labels machine ≡ record { number = (loaded_numbers r).number; count = (loaded_numbers r).count; insts = insts'; labels = labels'; machine = machine' }
unfolding load_call
load_answered machine r sized f w = rw (eq-eqb _ _ sized, f.insts_are, f.labels_are, w) (loaded_as _ r _ _ _ f.answers)

-- a slice of another length is no machine
pub no_machine_of : (bytes : List ℕ) → length bytes ≢ machine_size → is_machine bytes ≡ false
unfolding is_machine
no_machine_of bytes h = rw (ne_eqb _ _ h) refl

-- a machine by its byte for halted, and none
pub no_machine_by : (b h : Bool) → cond b (Some h) None ≡ None → b ≡ false
no_machine_by true h e = cc
no_machine_by false h e = refl

pub machine_by : (b h : Bool) {x : Bool} → cond b (Some h) None ≡ Some x → (b ≡ true) × (x ≡ h)
machine_by true h e = (refl, cc)
machine_by false h e = cc

-- the parts that were read are the machine that is lent
pub read_is : (bytes : List ℕ) (c : Registers) (f : ℕ) (h : Bool) (s ca me : List ℕ) → (s ≡ (machine_of bytes).stack) × (ca ≡ (machine_of bytes).calls) × (me ≡ (machine_of bytes).memory)
    → c ≡ registers_of (machine_of bytes) → f ≡ (machine_of bytes).flags → h ≡ (machine_of bytes).halted → of_parts c f s ca me h ≡ machine_of bytes
read_is bytes c f h s ca me arrays p q r = rw (p, q, r, arrays.0, arrays.1, arrays.2) refl

-- a run over a machine m that was read, whose outcome was written back
pub run_called : (image insts labels : List ℕ) (count : ℕ) (machine : List ℕ) (limit : ℕ) (dumps : List ℕ) (m : Machine) (o : Outcome) (s ca me dumps' machine' : List ℕ) →
    is_machine machine ≡ true →
    m ≡ machine_of machine →
    ExecuteParts image insts (labels_of labels) count m limit dumps o s ca me dumps' →
    machine' ≡ machine_bytes (of_parts o.at.regs o.at.flags s ca me (is_halted (ending_of o.ending))) →
    run_call image insts labels count machine limit dumps ≡ record { ending = ending_number (ending_of o.ending); steps = limit - o.at.left; dumped = o.dumped; machine = machine'; dumps = dumps' }
unfolding run_call ran_by
run_called image insts labels count machine limit dumps m o s ca me dumps' machine' is reads ran wrote =
    rw (is, ← reads, ← ran.gives, wrote) refl
