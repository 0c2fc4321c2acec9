-- `digests::replay_recorded` meets its contract. Assumes nothing.
use Rattle.digests.proofs.Replaying.{of_refused, of_steps}
use Rattle.digests.proofs.replay_recorded.Goals as goal

pub returns-then-same : goal.returns-then-same
returns-then-same c = rw c.in-Refused.is (of_refused _ (rw c.if-same.true) c.replay_image-same.ensures)

pub returns-else-same : goal.returns-else-same
returns-else-same c = rw c.in-Refused.is (of_refused _ (rw c.if-same.false) c.replay_image-same.ensures)

pub returns-in-Steps : goal.returns-in-Steps
returns-in-Steps c = rw c.in-Steps.is (of_steps c.replay_image.ensures)
