-- `run::execute_parts` meets its contract. Assumes nothing.
use mathlib.Core.Path.{◌≡◌}
use Prim.Native.Nat.{◌/◌}
use lib.ListN.{length}
use Rattle.machine.specs.Run.{course}
use Rattle.tables.specs.Tables.{insts_of}
use Rattle.lookup.specs.Walks.{lent_program}
use Rattle.step.specs.Steps.{lent, Told}
use Rattle.step_core.specs.Parts.{of_parts}
use Rattle.run.specs.Runs.{Running, weight}
use Rattle.run.proofs.execute_parts.Given as goal

abbrev pub invariant-loop-asking : goal.invariant-loop-asking
invariant-loop-asking g l =
    Running (lent_program l.code.image.now (insts_of l.code.insts.now) (g.T.LabelTable.records l.labels) l.code.count) l.code.insts.now l.fn.dumps l.fn.from.left
    (course (lent_program l.image (insts_of l.insts) (g.T.LabelTable.records l.labels) l.count) l.fn.from.left (length l.fn.dumps / 8) (of_parts l.fn.from.regs l.fn.from.flags l.initial.arrays.stack l.initial.arrays.calls l.initial.arrays.memory l.fn.halted))
    l.at l.cells.filled l.cells.buffer.now (lent l.known l.arrays)
    × Told (lent_program l.code.image.now (insts_of l.code.insts.now) (g.T.LabelTable.records l.labels) l.code.count) l.code.insts.now l.at.regs.ip l.found
    × (l.cells.buffer.ghost_name ≡ l.initial.cells.buffer.ghost_name)

abbrev pub decreases-loop-asking : goal.decreases-loop-asking
decreases-loop-asking g l = weight l.at l.found
