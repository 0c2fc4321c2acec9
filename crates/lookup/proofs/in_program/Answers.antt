-- `lookup::in_program` meets its contract. Assumes nothing.
use borrow.Author.Tests.{lt-ltb, le-ltb}
use Rattle.lookup.proofs.in_program.Goals as goal

pub returns-then-t-count : goal.returns-then-t-count
returns-then-t-count c = simp (lt-ltb _ _ c.if-t-count.true)

pub returns-else-t-count : goal.returns-else-t-count
returns-else-t-count c = simp (le-ltb _ _ c.if-t-count.false)
