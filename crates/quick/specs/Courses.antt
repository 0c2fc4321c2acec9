-- What the quick loop comes to: so many steps of the definition, none of which dumps, traps, halts or is ill.
use Rattle.std.specs.Prelude.{ℕ, ◌+◌, ◌-◌, ◌≤◌, ◌≡◌, false, List}
use Rattle.machine.specs.declared.Machine.{Machine}
use Rattle.machine.specs.Lookup.{Program}
use Rattle.machine.specs.Run.{Course, course}
use Rattle.step_core.specs.Parts.{of_parts, Inside}
use Rattle.quick.specs.declared.Reached.{Reached}
use Rattle.known.specs.declared.Known.{Known}
use Rattle.known.specs.Known.{AllKnown, Over}

-- a course with k steps before it that dump nothing
abbrev pub plus : ℕ → Course → Course
plus k r = record { machine = r.machine; ending = r.ending; steps = k + r.steps; cells = r.cells }

-- from m with so many steps to go, steps that only succeed lead to the machine of r and these arrays, whatever the labels of the program are
pub record Leads (xs : List ℕ) (k : Known) (m : Machine) (steps : ℕ) (r : Reached) (s ca me : List ℕ) : Type 0 where
  pub leads : (p : Program) → Over p xs → AllKnown p xs k → (room : ℕ) →
      plus (steps - r.left) (course p r.left room (of_parts r.regs r.flags s ca me false)) ≡ course p steps room m
  pub small : Inside r.regs
  pub fewer : r.left ≤ steps
