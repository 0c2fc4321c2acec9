-- `digests::agreeing_steps` meets its contract. Assumes nothing.
use Prim.Native.Nat.{◌<◌}
use mathlib.Core.Path.{◌≡◌, ◌∙◌, ap}
use mathlib.Core.List.{[]}
use native.Mathlib.Nat.{zero-add}
use native.Mathlib.Omega.{arith}
use borrow.Author.Rules.{rules}
use lib.ListN.{length, get_or}
use Rattle.std.specs.Int.{w32, from_le_bytes}
use Rattle.word.specs.Words.{little_endian}
use Rattle.tables.specs.Tables.{numbers_in, records_of}
use Rattle.tables.proofs.Numbers.{length_records}
use Rattle.run.specs.Runs.{answer}
use Rattle.run.proofs.Cells.{cells, in_cells}
use Rattle.digests.specs.Digests.{word, digest_after}
use Rattle.digests.proofs.Laws.{chunk_is, agreeing_next, agreeing_differs, agreeing_end}
use Rattle.digests.proofs.agreeing_steps.Goals.{After-from_le_bytes}
use Rattle.digests.proofs.agreeing_steps.Goals as goal

pub loop-i-init : goal.loop-i-init
loop-i-init c = record { inside = search rules; rest = zero-add _ }

-- what is recorded of this step
recorded : (c : After-from_le_bytes) → c.from_le_bytes.result ≡ get_or (records_of word c.args.recorded.now) c.loop-i.i 0
recorded c =
    c.from_le_bytes.ensures
    ∙ ap (λ ds. from_le_bytes w32 (get_or ds c.loop-i.i [])) c.as_chunks.ensures.front
    ∙ chunk_is _ c.loop-i.i c.args.recorded.now (omega (arith, c.as_chunks.ensures.front_len, c.loop-i-test.true)) (omega arith)

below : (c : After-from_le_bytes) → c.loop-i.i < length (records_of word c.args.recorded.now)
below c = omega (arith, length_records word c.args.recorded.now, c.as_chunks.ensures.front_len, c.loop-i-test.true)

pub returns-then-digest-from_le_bytes : goal.returns-then-digest-from_le_bytes
unfolding digest_after numbers_in little_endian
returns-then-digest-from_le_bytes c =
    let d = (goal.at.returns-then-digest-from_le_bytes c).After-from_le_bytes in
    agreeing_differs _ _ _ _ _ c.loop-i.invariant (cells (answer c.execute_program-ran.result c.execute_program-ran.new.dumps)) _ _ (below d) (in_cells _ _ _ _ _ c.execute_program-ran.ensures) (rw (c.number_at.ensures, c.from.ensures) at c.digest-digest.ensures) (recorded d) c.if-digest-from_le_bytes.true

pub loop-i-preserved : goal.loop-i-preserved
unfolding digest_after numbers_in little_endian
loop-i-preserved c =
    let d = (goal.at.loop-i-preserved c).After-from_le_bytes in
    agreeing_next _ _ _ _ _ c.loop-i.invariant (cells (answer c.execute_program-ran.result c.execute_program-ran.new.dumps)) _ _ (below d) (in_cells _ _ _ _ _ c.execute_program-ran.ensures) (rw (c.number_at.ensures, c.from.ensures) at c.digest-digest.ensures) (recorded d) c.if-digest-from_le_bytes.false

pub returns : goal.returns
returns c =
    let e = length_records word c.args.recorded.now in
    let n = agreeing_end _ _ _ _ _ c.loop-i.invariant (omega (arith, c.as_chunks.ensures.front_len, c.loop-i-test.false)) in
    omega (arith, c.as_chunks.ensures.front_len)
