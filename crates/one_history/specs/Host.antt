-- Demand 3 of the calls that a host makes: a load and any list of runs by the equations of mm_load and mm_run, and of the calls over label records. Definitions only.
use Rattle.std.specs.Prelude.{ℕ, ◌≡◌, cond, List, [], ◌∷◌, map, eqb}
use Rattle.inst.specs.Records.{Bytes}
use Rattle.machine.specs.declared.Machine.{Machine}
use Rattle.machine.specs.declared.Label.{Label}
use Rattle.machine.specs.Ending.{Ending, Halted, Limit, Number}
use Rattle.machine.specs.Load.{Load}
use Rattle.machine.specs.Run.{Result}
use Rattle.machine.specs.Statements.{Request}
use Rattle.tables.specs.Tables.{numbers_in}
use Rattle.loader.specs.Loading.{fresh_at, load_of}
use Rattle.label_loader.specs.Loading as records
use Rattle.machine_bytes.specs.Layout.{machine_of}
use Rattle.mm_host.specs.Calls.{LoadCall, load_call, no_machine, run_call}
use Rattle.label_run.specs.Runs as runs
use Rattle.one_history.specs.Calls.{AcceptedHistory}

-- One run that a host asked for. It keeps its machine as an M: the limit, the buffer's bytes as they were lent; the answer's three numbers; and the machine
-- and the buffer's bytes as the call left them
pub record HostRun (M : Type 0) : Type 0 where
  pub limit : ℕ
  pub lent : List ℕ
  pub ending : ℕ
  pub steps : ℕ
  pub dumped : ℕ
  pub machine : M
  pub left : List ℕ

-- each run meets the call's equation with the machine that the one before left, the first with m
unfoldable pub HostRuns : {M : Type 0} → (M → HostRun M → Type 0) → M → List (HostRun M) → Type 0
HostRuns Equation m [] = Unit {0}
HostRuns Equation m (c ∷ cs) = Equation m c × HostRuns Equation c.machine cs

-- the equations of mm_run and of mm_run_in_place, over what the load left
abbrev pub Ran : (image insts labels : List ℕ) → ℕ → List ℕ → HostRun (List ℕ) → Type 0
Ran image insts labels count m c =
    run_call image insts labels count m c.limit c.lent
    ≡ record { ending = c.ending; steps = c.steps; dumped = c.dumped; machine = c.machine; dumps = c.left }

abbrev pub RanInPlace : (image insts : List ℕ) → List Label → ℕ → Machine → HostRun Machine → Type 0
RanInPlace image insts labels count m c =
    runs.run_call image insts labels count m c.limit c.lent
    ≡ record { ending = c.ending; steps = c.steps; dumped = c.dumped; machine = c.machine; dumps = c.left }

-- as the definitions have it: an ending from the number that crossed, the cells of the buffer, the machine that M stands for
abbrev pub ending_of : ℕ → Ending
ending_of n = cond (eqb n 0) Halted (cond (eqb n 1) Limit (Number n))

abbrev pub host_request : {M : Type 0} → HostRun M → Request
host_request c = record { limit = c.limit; buffer = numbers_in c.lent }

abbrev pub host_result : {M : Type 0} → (M → Machine) → HostRun M → Result
host_result read c =
    record { machine = read c.machine; ending = ending_of c.ending; steps = c.steps; dumped = c.dumped; buffer = numbers_in c.left }

unfoldable pub NoneIs : {M : Type 0} → ℕ → List (HostRun M) → Type 0
NoneIs n [] = Unit {0}
NoneIs n (c ∷ cs) = (c.ending ≡ n → ⊥) × NoneIs n cs

-- demand 3 of the runs, and none answers that it was lent no machine
pub record HostHistory (image : List ℕ) (answer : Load) {M : Type 0} (read : M → Machine) (cs : List (HostRun M)) : Type 0 where
  pub one_history : AcceptedHistory image answer (map host_request cs) (map (host_result read) cs)
  pub never_50 : NoneIs no_machine cs

-- A load that answers the number 0, whatever the lent bytes held, and runs with the tables, the count and the machine's bytes as it left them
abbrev pub HostCallsAreOneHistory : Type 0
HostCallsAreOneHistory =
    (image insts labels machine : List ℕ) (r : LoadCall)
    → Bytes image
    → load_call image insts labels machine ≡ r
    → r.number ≡ 0
    → (cs : List (HostRun (List ℕ)))
    → HostRuns (Ran image r.insts r.labels r.count) r.machine cs
    → HostHistory image (load_of image insts labels) machine_of cs

-- the same of mm_load_labels and mm_run_in_place: the caller makes the fresh machine of the pointer that the load answers, and lends it to the first run
abbrev pub InPlaceHostCallsAreOneHistory : Type 0
InPlaceHostCallsAreOneHistory =
    (image insts : List ℕ) (labels : List Label) (r : records.LoadCall)
    → Bytes image
    → records.load_call image insts labels ≡ r
    → r.number ≡ 0
    → (cs : List (HostRun Machine))
    → HostRuns (RanInPlace image r.insts r.labels r.count) (fresh_at r.ip) cs
    → HostHistory image (records.load_of image insts labels) (λ x. x) cs

pub record HostTheorems : Type 0 where
  pub by_bytes : HostCallsAreOneHistory
  pub in_place : InPlaceHostCallsAreOneHistory
