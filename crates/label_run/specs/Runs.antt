-- What a run answers and leaves where the label table is lent as records, by document 01's run.
use Rattle.std.specs.Prelude.{ℕ, ◌≡◌, List}
use Rattle.machine.specs.declared.Label.{Label}
use Rattle.machine.specs.declared.Machine.{Machine}
use Rattle.machine.specs.Run.{Result}
use Rattle.tables.specs.Tables.{insts_of}
use Rattle.lookup.specs.Walks.{lent_program}
use Rattle.run.specs.declared.Ran.{Ran}
use Rattle.run.specs.Runs.{answer, run_bytes}
use Rattle.machine.specs.Ending.{ending_number}

-- the run of document 01 with the instruction table lent as bytes
abbrev pub run_of : (image insts : List ℕ) (labels : List Label) → ℕ → Machine → ℕ → List ℕ → Result
run_of image insts labels count m limit dumps = run_bytes (lent_program image (insts_of insts) labels count) limit dumps m

-- the promise of a run by value: its answer, and the buffer that it leaves
abbrev pub ExecuteProgram : (image insts : List ℕ) (labels : List Label) → ℕ → Machine → ℕ → List ℕ → Ran → List ℕ → Type 0
ExecuteProgram image insts labels count m limit dumps r dumps' = answer r dumps' ≡ run_of image insts labels count m limit dumps

-- what a run in place answers and leaves: its numbers, the machine and the buffer afterwards
pub record RunCall : Type 0 where
  pub ending : ℕ
  pub steps : ℕ
  pub dumped : ℕ
  pub machine : Machine
  pub dumps : List ℕ

unfoldable pub ran_by : Result → RunCall
ran_by r = record { ending = ending_number r.ending; steps = r.steps; dumped = r.dumped; machine = r.machine; dumps = r.buffer }

unfoldable pub run_call : (image insts : List ℕ) → List Label → ℕ → Machine → ℕ → List ℕ → RunCall
run_call image insts labels count m limit dumps = ran_by (run_of image insts labels count m limit dumps)
