-- How far a run has come, whatever the labels are.
use Rattle.std.specs.Prelude.{ℕ, ◌+◌, ◌-◌, ◌*◌, ◌/◌, ◌≤◌, ◌<◌, ◌≡◌, Bool, false, cond, List, Option, is_some, Result as Answered, Ok, Err, length, take}
use Rattle.std.proofs.lemmas.List.Edits.{sets}
use Rattle.std.specs.declared.ops.ControlFlow.{ControlFlow}
use Rattle.std.specs.declared.ops.ControlFlow.TheVariants.{Continue, Break}
use Rattle.machine.specs.declared.Machine.{Machine}
use Rattle.machine.specs.declared.Ending as code
use Rattle.machine.specs.Ending.{ending_of}
use Rattle.machine.specs.declared.Label.{Label}
use Rattle.machine.specs.Lookup.{Program}
use Rattle.machine.specs.Run.{Course, Result, course, ended}
use Rattle.tables.specs.Tables.{numbers_in, bytes_of, insts_of, program}
use Rattle.tables.specs.declared.code.Code.{Code}
use Rattle.quick.specs.declared.Reached.{Reached}
use Rattle.step_core.specs.Parts.{of_parts, registers_of, Inside, LookedUp}
use Rattle.lookup.specs.Walks.{lent_program}
use Rattle.known.specs.declared.Known.{Known}
use Rattle.known.specs.Known.{AllKnown, Listed, Over}
use Rattle.step.specs.Steps.{Lent, NamedAt, Told}
use Rattle.run.specs.declared.progress.Outcome.{Outcome}
use Rattle.run.specs.declared.progress.Asking.{Asking}
use Rattle.run.specs.declared.Ran.{Ran}
use Rattle.run.specs.Turns.{more, closed, is_halted, Written}

-- the machine of `at` and the arrays a, which isn't halted
abbrev pub machine_at : Reached → Lent → Machine
machine_at at a = of_parts at.regs at.flags a.stack a.calls a.memory false

-- Of a run of p over the table xs with this limit and buffer: the limit less the steps left led to the machine of `at` and a, with so many cells of the
-- buffer filled, and what is known of the instructions is right
pub record Running (p : Program) (xs b₀ : List ℕ) (limit : ℕ) (run : Course) (at : Reached) (n : ℕ) (b : List ℕ) (a : Lent) : Type 0 where
  pub is : more (limit - at.left) (take n (numbers_in b)) (course p at.left (length b₀ / 8 - n) (machine_at at a)) ≡ run
  pub small : Inside at.regs
  pub fewer : at.left ≤ limit
  pub filled : n * 8 ≤ length b
  pub long : length b ≡ length b₀
  pub written : Written n b₀ b
  pub over : Over p xs
  pub known : AllKnown p xs a.known

-- the run is over, with this outcome
pub record Reaches (run : Course) (limit : ℕ) (b₀ : List ℕ) (o : Outcome) (b s ca me : List ℕ) : Type 0 where
  pub is : closed (limit - o.at.left) o b s ca me ≡ run
  pub long : length b ≡ length b₀
  pub written : Written o.dumped b₀ b
  pub fewer : o.at.left ≤ limit
  pub filled : o.dumped * 8 ≤ length b

-- Where a run goes on with what was found for the name that it asked for it takes a step or ends; with nothing found it may ask first
abbrev pub weight : Reached → Option LookedUp → ℕ
weight at found = at.left + cond (is_some found) 1 2

-- Of a run over this program, before its first step: it isn't halted and 34 doesn't end it by what no step changes; or document 01's run makes no step and ends so
abbrev pub Begins : (image xs : List ℕ) → ℕ → Reached → Bool → Answered Code code.Ending → Type 0
Begins image xs count at h (Ok p) = (h ≡ false) × Inside at.regs × (p.image.now ≡ image) × (p.insts.now ≡ xs) × (p.count ≡ count)
Begins image xs count at h (Err e) =
    (h ≡ is_halted (ending_of e))
    × ((labels : List Label) (room : ℕ) (s ca me : List ℕ) →
    course (lent_program image (insts_of xs) labels count) at.left room (of_parts at.regs at.flags s ca me h) ≡ ended (ending_of e) (of_parts at.regs at.flags s ca me h))

-- what `steps` requires: it doesn't depend on the labels
pub record Ready (count : ℕ) (at : Reached) (known : Known) : Type 0 where
  pub small : Inside at.regs
  pub listed : Listed count known

-- behind `steps` from `at`, where this was found: the run goes on, and asks for the name of the instruction at the pointer; or it is over
abbrev pub Stands : Program → List ℕ → List ℕ → ℕ → Course → Reached → Option LookedUp → ControlFlow Outcome Asking → ℕ → List ℕ → Lent → Type 0
Stands p xs b₀ limit run at found (Continue q) n b a =
    Running p xs b₀ limit run q.at n b a × NamedAt p.image xs q.at.regs.ip q.name.now × (q.at.left + 1 < weight at found)
Stands p xs b₀ limit run at found (Break o) n b a = Reaches run limit b₀ o b a.stack a.calls a.memory

-- what `steps` does from `at`, whatever the labels are, if this is what was found in them
pub record Advances (image xs : List ℕ) (count : ℕ) (at : Reached) (found : Option LookedUp) (n : ℕ) (b : List ℕ) (a : Lent) (r : ControlFlow Outcome Asking) (n' : ℕ) (b' : List ℕ) (a' : Lent) : Type 0 where
  pub stands : (labels : List Label) (b₀ : List ℕ) (limit : ℕ) (run : Course) →
      Running (lent_program image (insts_of xs) labels count) xs b₀ limit run at n b a →
      Told (lent_program image (insts_of xs) labels count) xs at.regs.ip found →
      Stands (lent_program image (insts_of xs) labels count) xs b₀ limit run at found r n' b' a'

-- Document 01's run over a lent buffer of bytes, eight a cell: the cells fill it from its front, and the rest of it, bytes left over at its end too, is unchanged
unfoldable pub run_bytes : Program → ℕ → List ℕ → Machine → Result
run_bytes p limit dumps m =
    let r = course p limit (length dumps / 8) m in
    record { machine = r.machine; ending = r.ending; steps = r.steps; dumped = length r.cells; buffer = sets dumps 0 (bytes_of r.cells) }

-- how far a run with this limit has come where its result is r
abbrev pub progress_of : ℕ → Result → Reached
progress_of limit r = record { regs = registers_of r.machine; left = limit - r.steps; flags = r.machine.flags }

-- the result of a run with this limit, by its outcome and the arrays and the buffer that are left
abbrev pub result_of : ℕ → Outcome → List ℕ → List ℕ → List ℕ → List ℕ → Result
result_of limit o s ca me b =
    record { machine = of_parts o.at.regs o.at.flags s ca me (is_halted (ending_of o.ending)); ending = ending_of o.ending; steps = limit - o.at.left; dumped = o.dumped; buffer = b }

-- of a run with this limit over lent tables, the label table as records: the definition's result from m determines the outcome o, all of it (no two endings of the code are one of the definitions), and is o with the arrays and the buffer
-- that are left
pub record ExecuteParts (image insts : List ℕ) (labels : List Label) (count : ℕ) (m : Machine) (limit : ℕ) (dumps : List ℕ) (o : Outcome) (s ca me dumps' : List ℕ) : Type 0 where
  pub answers : o.at ≡ progress_of limit (run_bytes (lent_program image (insts_of insts) labels count) limit dumps m)
  pub gives : result_of limit o s ca me dumps' ≡ run_bytes (lent_program image (insts_of insts) labels count) limit dumps m

-- the same over a machine that is lent: what is left of it is the machine of the result
pub record ExecuteInPlace (image insts : List ℕ) (labels : List Label) (count : ℕ) (m : Machine) (limit : ℕ) (dumps : List ℕ) (o : Outcome) (m' : Machine) (dumps' : List ℕ) : Type 0 where
  pub answers : o.at ≡ progress_of limit (run_bytes (lent_program image (insts_of insts) labels count) limit dumps m)
  pub gives : record { machine = m'; ending = ending_of o.ending; steps = limit - o.at.left; dumped = o.dumped; buffer = dumps' } ≡ run_bytes (lent_program image (insts_of insts) labels count) limit dumps m

-- what a run's answer says
abbrev pub answer : Ran → List ℕ → Result
answer r b = record { machine = r.machine; ending = ending_of r.ending; steps = r.steps; dumped = r.dumped; buffer = b }

-- the promise: what a run over lent tables answers, the label table as records, and the buffer that it leaves
abbrev pub ExecuteRecords : (image insts : List ℕ) (labels : List Label) → ℕ → Machine → ℕ → List ℕ → Ran → List ℕ → Type 0
ExecuteRecords image insts labels count m limit dumps r dumps' = answer r dumps' ≡ run_bytes (lent_program image (insts_of insts) labels count) limit dumps m

-- the promise where all that is lent is bytes
abbrev pub ExecuteProgram : (image insts labels : List ℕ) → ℕ → Machine → ℕ → List ℕ → Ran → List ℕ → Type 0
ExecuteProgram image insts labels count m limit dumps r dumps' = answer r dumps' ≡ run_bytes (program image insts labels count) limit dumps m
