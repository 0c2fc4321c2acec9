-- `transcript::print_runs` meets its contract. The invariant: what was printed is the front of what the runs in all print. Assumes nothing.
use Prim.Native.Nat.{◌+◌, ◌*◌, ◌≤◌}
use mathlib.Core.Path.{◌≡◌, refl, sym, ◌∙◌}
use borrow.Author.Rules.{rules}
use native.Mathlib.Omega.{arith}
use lib.ListN.{length}
use lib.Seq.{length-take-le}
use Rattle.machine.specs.Ending.{Number, ending_of}
use Rattle.report.proofs.Laws.{same_length}
use Rattle.run.specs.Runs.{answer}
use Rattle.run.proofs.Cells.{cells, in_cells}
use Rattle.tables.specs.Tables.{numbers_in, program}
use Rattle.tables.proofs.Bytes.{length_numbers_in}
use Rattle.transcript.proofs.Printing.{Printing, front_numbers, begins, full, resumed, Turned, turned, room_at_end, ends, sixty_four, same_bytes}
use Rattle.transcript.proofs.print_runs.Goals.{After-execute_program-ran, After-cell_lines}
use Rattle.transcript.proofs.print_runs.Goals as goal

-- a run more
ran : (c : After-execute_program-ran)
    → Turned (program c.args.image.now c.args.insts.now c.args.labels.now c.args.count) c.args.m
    c.args.text.now c.loop-dumps.out.text.now (Number 33) c.loop-dumps.steps c.loop-dumps.out.at
    (cells (answer c.execute_program-ran.result c.execute_program-ran.new.dumps))
ran c = turned c.loop-dumps.invariant.printing full (numbers_in c.loop-dumps.dumps) (sixty_four c.loop-dumps.dumps c.loop-dumps.invariant.buffer) _ (in_cells _ _ _ _ _ c.execute_program-ran.ensures)

long : (c : After-execute_program-ran) → length c.execute_program-ran.new.dumps ≡ 512
long c = same_bytes _ _ c.loop-dumps.dumps _ (answer c.execute_program-ran.result c.execute_program-ran.new.dumps) c.execute_program-ran.ensures ∙ c.loop-dumps.invariant.buffer

fits : (c : After-execute_program-ran) → c.execute_program-ran.result.dumped * 8 ≤ length c.execute_program-ran.new.dumps
fits c = omega (arith, (ran c).fits, length_numbers_in c.execute_program-ran.new.dumps)

pub loop-dumps-init : goal.loop-dumps-init
loop-dumps-init c =
    rw c.new-out.ensures (record { buffer = refl; same_reference = refl; room = search rules; printing = begins _ _ _ })

pub overflow_mul-dumps : goal.overflow_mul-dumps
overflow_mul-dumps c =
    let f = fits (goal.at.overflow_mul-dumps c).After-execute_program-ran in
    let l = long (goal.at.overflow_mul-dumps c).After-execute_program-ran in
    record { fits = omega arith }

pub slice_bounds-dumps-end : goal.slice_bounds-dumps-end
slice_bounds-dumps-end c = fits (goal.at.slice_bounds-dumps-end c).After-execute_program-ran

pub slice_bounds-cell_lines-end : goal.slice_bounds-cell_lines-end
slice_bounds-cell_lines-end c = sym (length-take-le _ _ (fits (goal.at.slice_bounds-cell_lines-end c).After-execute_program-ran))

pub cell_lines-requires : goal.cell_lines-requires
cell_lines-requires c =
    let r = ran (goal.at.cell_lines-requires c).After-execute_program-ran in
    rw (front_numbers _ _ (fits (goal.at.cell_lines-requires c).After-execute_program-ran)) (r.room c.loop-dumps.invariant.room)

-- and what it printed
printing : (c : After-cell_lines)
    → Printing (program c.args.image.now c.args.insts.now c.args.labels.now c.args.count) c.args.m c.args.text.now c.cell_lines.new.self.text.now
    c.execute_program-ran.result.machine (ending_of c.execute_program-ran.result.ending) (c.loop-dumps.steps + c.execute_program-ran.result.steps) c.cell_lines.new.self.at
printing c =
    let before = (goal.at.After-cell_lines c).After-execute_program-ran in
    (ran before).goes (rw (front_numbers _ _ (fits before)) at c.cell_lines.ensures.put)

pub overflow_add-steps : goal.overflow_add-steps
overflow_add-steps c =
    let r = ran (goal.at.overflow_add-steps c).After-execute_program-ran in
    record { fits = omega (arith, r.fewer, c.loop-dumps.invariant.printing.within) }

pub loop-dumps-smaller : goal.loop-dumps-smaller
loop-dumps-smaller c =
    let r = ran (goal.at.loop-dumps-smaller c).After-execute_program-ran in
    omega (arith, r.fewer, r.falls (sym c.is_full.ensures ∙ c.if-not-is_full.false), c.loop-dumps.invariant.printing.within)

pub loop-dumps-preserved : goal.loop-dumps-preserved
loop-dumps-preserved c =
    record {
      buffer = long (goal.at.loop-dumps-preserved c).After-execute_program-ran;
      same_reference = c.cell_lines.ensures.same_reference ∙ c.loop-dumps.invariant.same_reference;
      room = same_length c.cell_lines.ensures.put ∙ c.loop-dumps.invariant.room;
      printing = resumed (printing (goal.at.loop-dumps-preserved c).After-cell_lines) (sym c.is_full.ensures ∙ c.if-not-is_full.false);
    }

pub end_line-requires : goal.end_line-requires
end_line-requires c =
    room_at_end (printing (goal.at.end_line-requires c).After-cell_lines) (sym c.is_full.ensures ∙ c.if-not-is_full.true) (same_length c.cell_lines.ensures.put ∙ c.loop-dumps.invariant.room)

pub returns-then-not-is_full : goal.returns-then-not-is_full
returns-then-not-is_full c =
    rw c.len.ensures (ends (printing (goal.at.returns-then-not-is_full c).After-cell_lines) (sym c.is_full.ensures ∙ c.if-not-is_full.true) c.end_line.ensures.put)
