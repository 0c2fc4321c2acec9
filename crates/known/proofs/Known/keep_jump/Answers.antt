-- `known::keep_jump` meets its contract. Assumes nothing.
use borrow.Author.Tests.{lt-ltb}
use Rattle.known.proofs.Keeping.{is_target, no_slot}
use Rattle.known.proofs.Known.keep_jump.Goals as goal

pub returns-then-at-lt-KNOWN_LIMIT-clause-kept : goal.returns-then-at-lt-KNOWN_LIMIT-clause-kept
returns-then-at-lt-KNOWN_LIMIT-clause-kept c = λ h. is_target c.in-Some.is c.in-Ok-found.is (simp (lt-ltb _ _ c.if-at-lt-KNOWN_LIMIT.true, lt-ltb _ _ c.in-Ok-try_from.ensures.0, c.in-Ok.ensures.1, c.in-Ok-try_from.ensures.1))

pub returns-else-at-lt-KNOWN_LIMIT-clause-kept : goal.returns-else-at-lt-KNOWN_LIMIT-clause-kept
returns-else-at-lt-KNOWN_LIMIT-clause-kept c = λ h. no_slot _ c.if-at-lt-KNOWN_LIMIT.false
