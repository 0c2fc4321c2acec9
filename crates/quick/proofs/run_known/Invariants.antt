-- `quick::run_known` meets its contract. Assumes nothing.
use mathlib.Core.Bool.{false}
use Rattle.step_core.specs.Parts.{of_parts}
use Rattle.quick.specs.Courses.{Leads}
use Rattle.quick.proofs.run_known.Given as goal

abbrev pub invariant-loop-reached : goal.invariant-loop-reached
invariant-loop-reached l =
    Leads l.code.insts.now l.known (of_parts l.fn.from.regs l.fn.from.flags l.initial.arrays.stack l.initial.arrays.calls l.initial.arrays.memory false) l.fn.from.left l.reached l.arrays.stack l.arrays.calls l.arrays.memory

abbrev pub decreases-loop-reached : goal.decreases-loop-reached
decreases-loop-reached l = l.reached.left
