-- Demand 3 of the code: what the contracts of one load and of any list of runs say makes these calls one history. Definitions only.
use Rattle.std.specs.Prelude.{ℕ, ◌≡◌, Ok, List, [], ◌∷◌, map}
use Rattle.inst.specs.Records.{Bytes}
use Rattle.machine.specs.declared.Machine.{Machine}
use Rattle.machine.specs.declared.Label.{Label}
use Rattle.machine.specs.Load.{Load, Loaded, accepts}
use Rattle.machine.specs.Run.{Result}
use Rattle.machine.specs.Statements.{Request, OneHistory}
use Rattle.tables.specs.Tables.{numbers_in}
use Rattle.loader.specs.Loading.{fresh_at, load_of, FromBinary}
use Rattle.run.specs.declared.Ran.{Ran}
use Rattle.run.specs.Runs.{answer, ExecuteProgram}
use Rattle.label_loader.specs.Loading as records
use Rattle.label_run.specs.Runs as runs

-- one call of a run: its limit, the buffer's bytes as they were lent, what it returned, and its bytes as they were left
pub record Call : Type 0 where
  pub limit : ℕ
  pub lent : List ℕ
  pub ran : Ran
  pub left : List ℕ

-- The contract of a run holds of each call; the first has the machine m, each other one the machine that the one before returned
unfoldable pub Called : (Machine → ℕ → List ℕ → Ran → List ℕ → Type 0) → Machine → List Call → Type 0
Called Contract m [] = Unit {0}
Called Contract m (c ∷ cs) = Contract m c.limit c.lent c.ran c.left × Called Contract c.ran.machine cs

-- as the definitions have it, with the buffer's cells
abbrev pub request : Call → Request
request c = record { limit = c.limit; buffer = numbers_in c.lent }

abbrev pub result : Call → Result
result c = answer c.ran (numbers_in c.left)

-- demand 3 of these requests and results, of an image that a load with this answer accepted
abbrev pub AcceptedHistory : List ℕ → Load → List Request → List Result → Type 0
AcceptedHistory image answer qs rs = (l : Loaded) × (answer ≡ accepts l) × OneHistory image l qs rs

abbrev pub OneHistoryOf : List ℕ → Load → List Call → Type 0
OneHistoryOf image answer cs = AcceptedHistory image answer (map request cs) (map result cs)

-- A load that accepted, whatever the tables held, and runs from its fresh machine with the tables as it left them and its count
abbrev pub CallsAreOneHistory : Type 0
CallsAreOneHistory =
    (image insts labels : List ℕ) (ip count : ℕ) (insts' labels' : List ℕ)
    → Bytes image
    → FromBinary image insts labels (Ok (record { ip = ip; count = count })) insts' labels'
    → (cs : List Call)
    → Called (ExecuteProgram image insts' labels' count) (fresh_at ip) cs
    → OneHistoryOf image (load_of image insts labels) cs

-- the same where the label table is lent as records (label_loader's mm_load_labels and run's execute_program over them): a load that answers the number 0, and
-- runs from the fresh machine of its pointer
abbrev pub RecordCallsAreOneHistory : Type 0
RecordCallsAreOneHistory =
    (image insts : List ℕ) (labels : List Label) (r : records.LoadCall)
    → Bytes image
    → records.load_call image insts labels ≡ r
    → r.number ≡ 0
    → (cs : List Call)
    → Called (runs.ExecuteProgram image r.insts r.labels r.count) (fresh_at r.ip) cs
    → OneHistoryOf image (records.load_of image insts labels) cs

pub record CallTheorems : Type 0 where
  pub by_bytes : CallsAreOneHistory
  pub by_records : RecordCallsAreOneHistory
