-- `known::keep` meets its contract. Assumes nothing.
use borrow.Author.Tests.{lt-ltb, le-ltb}
use Rattle.known.proofs.Known.keep.Goals as goal

pub returns-then-at-lt-KNOWN_LIMIT : goal.returns-then-at-lt-KNOWN_LIMIT
returns-then-at-lt-KNOWN_LIMIT c = record { is = simp (lt-ltb _ _ c.if-at-lt-KNOWN_LIMIT.true) }

pub returns-else-at-lt-KNOWN_LIMIT : goal.returns-else-at-lt-KNOWN_LIMIT
returns-else-at-lt-KNOWN_LIMIT c = record { is = simp (le-ltb _ _ c.if-at-lt-KNOWN_LIMIT.false) }
