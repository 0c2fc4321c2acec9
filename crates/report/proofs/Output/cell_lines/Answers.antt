-- `report::Output::cell_lines` meets its contract. Assumes nothing.
use mathlib.Core.Path.{◌≡◌, ◌∙◌, ap}
use mathlib.Core.List.{[]}
use native.Mathlib.Omega.{arith}
use lib.ListN.{get_or}
use lib.Seq.{take_all}
use Rattle.std.specs.Int.{w64, from_le_bytes}
use Rattle.tables.specs.Tables.{numbers_in}
use Rattle.tables.proofs.Bytes.{length_numbers_in}
use Rattle.report.proofs.Laws.{lines_begin, lines_next, lines_room, chunk_is}
use Rattle.report.proofs.Output.cell_lines.Goals.{After-from_le_bytes}
use Rattle.report.proofs.Output.cell_lines.Goals as goal

cell : (c : After-from_le_bytes) → c.from_le_bytes.result ≡ get_or (numbers_in c.args.cells.now) c.loop-cell.cell-index 0
cell c =
    c.from_le_bytes.ensures
    ∙ ap (λ xs. from_le_bytes w64 (get_or xs c.loop-cell.cell-index [])) c.as_chunks.ensures.front
    ∙ chunk_is c.args.cells.now c.loop-cell.cell-index (omega (arith, c.as_chunks.ensures.front_len, c.loop-cell-test.true))

pub loop-cell-init : goal.loop-cell-init
loop-cell-init c = lines_begin

pub cell_line-requires : goal.cell_line-requires
cell_line-requires c =
    let l = length_numbers_in c.args.cells.now in
    rw (cell c) (lines_room (numbers_in c.args.cells.now) c.loop-cell.cell-index (omega (arith, c.as_chunks.ensures.front_len, c.loop-cell-test.true)) c.loop-cell.invariant c.requires)

pub loop-cell-preserved : goal.loop-cell-preserved
loop-cell-preserved c =
    let l = length_numbers_in c.args.cells.now in
    lines_next (numbers_in c.args.cells.now) c.loop-cell.cell-index (omega (arith, c.as_chunks.ensures.front_len, c.loop-cell-test.true)) c.loop-cell.invariant
    (rw (cell (goal.at.loop-cell-preserved c).After-from_le_bytes) at c.cell_line.ensures)

pub returns : goal.returns
returns c =
    let l = length_numbers_in c.args.cells.now in
    rw (take_all c.loop-cell.cell-index (numbers_in c.args.cells.now) (omega (arith, c.as_chunks.ensures.front_len))) at c.loop-cell.invariant
