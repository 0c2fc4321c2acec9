-- `report::Output::cell_lines` meets its contract. The invariant: the first lines are printed. Assumes nothing.
use lib.ListN.{take}
use Rattle.tables.specs.Tables.{numbers_in}
use Rattle.report.specs.Text.{cell_lines}
use Rattle.report.specs.Outputs.{Prints}
use Rattle.report.proofs.Output.cell_lines.Given as goal

abbrev pub invariant-loop-cell : goal.invariant-loop-cell
invariant-loop-cell l = Prints l.initial.self (cell_lines (take l.cell-index (numbers_in l.fn.cells))) l.self
