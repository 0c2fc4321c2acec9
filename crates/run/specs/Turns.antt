-- What follows one step of a run.
use Rattle.std.specs.Prelude.{ℕ, ◌+◌, ◌-◌, ◌*◌, ◌/◌, ◌<◌, ◌≤◌, ◌≡◌, Option, Some, None, Bool, true, false, List, ◌++◌, length, take}
use Rattle.std.proofs.lemmas.List.Edits.{sets}
use Rattle.std.specs.declared.ops.ControlFlow.{ControlFlow}
use Rattle.std.specs.declared.ops.ControlFlow.TheVariants.{Continue, Break}
use Rattle.machine.specs.declared.Machine.{Machine}
use Rattle.machine.specs.Ending.{Ending, Halted, Limit, Number, ending_of}
use Rattle.machine.specs.Step.{Stepped}
use Rattle.machine.specs.Run.{Course, ended, before, turn}
use Rattle.tables.specs.Tables.{numbers_in, bytes_of}
use Rattle.word.specs.Words.{eight_of}
use Rattle.step_core.specs.declared.Executed.{Executed}
use Rattle.step_core.specs.Parts.{of_parts, means, Inside, Untaken}
use Rattle.quick.specs.declared.Reached.{Reached}
use Rattle.run.specs.declared.progress.Outcome.{Outcome}

-- a course that comes after k steps, which dumped out
unfoldable pub more : ℕ → List ℕ → Course → Course
more k out r = record { machine = r.machine; ending = r.ending; steps = k + r.steps; cells = out ++ r.cells }

-- the machine is halted after a run that ended so
abbrev pub is_halted : Ending → Bool
is_halted Halted = true
is_halted Limit = false
is_halted (Number n) = false

-- the course of a run that is over, after this many steps
abbrev pub closed : ℕ → Outcome → List ℕ → List ℕ → List ℕ → List ℕ → Course
closed steps o b s ca me =
    record { machine = of_parts o.at.regs o.at.flags s ca me (is_halted (ending_of o.ending)); ending = ending_of o.ending; steps = steps; cells = take o.dumped (numbers_in b) }

-- with so many steps and so much room left, the turn that m takes by the step st
abbrev pub turned : Machine → (ℕ → Machine → Course) → ℕ → ℕ → Stepped → Course
turned m rest left room st = turn m rest room st (before m left room st)

-- one that is halted ends there
abbrev pub Rests : (ℕ → Machine → Course) → Type 0
Rests rest = (room : ℕ) (m : Machine) → m.halted ≡ true → rest room m ≡ ended Halted m

-- b is the buffer b₀ with its first n cells written
abbrev pub Written : ℕ → List ℕ → List ℕ → Type 0
Written n b₀ b = b ≡ sets b₀ 0 (bytes_of (take n (numbers_in b)))

-- the buffer b with n cells filled became b' with n'
pub record Fills (n : ℕ) (b : List ℕ) (n' : ℕ) (b' : List ℕ) : Type 0 where
  pub filled : n' * 8 ≤ length b
  pub long : length b' ≡ length b
  pub written : (b₀ : List ℕ) → Written n b₀ b → Written n' b₀ b'

-- a cell more in the buffer b with n cells filled, where it has a slot
abbrev pub Pushes : ℕ → List ℕ → ℕ → Option Unit → ℕ → List ℕ → Type 0
Pushes n b x (Some u) n' b' = (n < length b / 8) × (n' ≡ n + 1) × (b' ≡ sets b (n * 8) (eight_of x))
Pushes n b x None n' b' = (length b / 8 ≤ n) × (n' ≡ n) × (b' ≡ b)

-- behind a step from `at` whose answer is a: on with `rest`, or the end
abbrev pub Followed : Executed → Reached → ℕ → List ℕ → ℕ → List ℕ → ControlFlow Outcome Reached → Type 0
Followed a at n b n' b' (Continue on) =
    ((s ca me s' ca' me' : List ℕ) (rest : ℕ → Machine → Course) (k : ℕ) → Untaken a ((s' ≡ s) × (ca' ≡ ca) × (me' ≡ me)) →
    more k (take n (numbers_in b)) (turned (of_parts at.regs at.flags s ca me false) rest at.left (length b / 8 - n) (means at.flags a s' ca' me'))
    ≡ more (k + 1) (take n' (numbers_in b')) (rest (length b / 8 - n') (of_parts on.regs on.flags s' ca' me' false)))
    × Inside on.regs
    × (on.left ≡ at.left - 1)
    × Fills n b n' b'
Followed a at n b n' b' (Break o) =
    ((s ca me s' ca' me' : List ℕ) (rest : ℕ → Machine → Course) (k : ℕ) → Rests rest → Untaken a ((s' ≡ s) × (ca' ≡ ca) × (me' ≡ me)) →
    more k (take n (numbers_in b)) (turned (of_parts at.regs at.flags s ca me false) rest at.left (length b / 8 - n) (means at.flags a s' ca' me'))
    ≡ closed (k + (at.left - o.at.left)) o b' s' ca' me')
    × (o.at.left ≤ at.left)
    × Fills n b n' b' × (o.dumped ≡ n')

pub record Follows (a : Executed) (at : Reached) (n : ℕ) (b : List ℕ) (n' : ℕ) (b' : List ℕ) (r : ControlFlow Outcome Reached) : Type 0 where
  pub followed : Followed a at n b n' b' r
