-- `encoder::taken` meets its contract. Assumes nothing.
use Rattle.encoder.proofs.Answers.{taken_none, taken_some}
use Rattle.encoder.proofs.taken.Goals as goal

pub returns-in_err-left : goal.returns-in_err-left
returns-in_err-left c room n f = rw c.from_residual.ensures (taken_none room n c.args.len (rw c.in_err-left.was at f))

pub returns : goal.returns
returns c room n f = taken_some room n c.args.len _ _ (rw c.in_ok-left.was at f) c.checked_sub.ensures
