-- `transcript::transcript_theorems` meets its contract. Assumes nothing.
use Rattle.transcript.proofs.Joined.{buffer_unseen}
use Rattle.transcript.proofs.transcript_theorems.Goals as goal

pub returns : goal.returns
returns c = buffer_unseen
