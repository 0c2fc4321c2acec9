-- No more steps agree than digests were recorded.
use Rattle.digests.proofs.Replaying.{recorded_most}
use Rattle.replay.proofs.replay_record.Goals as goal

pub returns : goal.returns
returns c = recorded_most c.replay_recorded.ensures
