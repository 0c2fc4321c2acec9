-- `transcript::run_image` meets its contract. Assumes nothing.
use Rattle.transcript.specs.Transcript.{printed}
use Rattle.transcript.proofs.Loads.{refused_put, accepted_put}
use Rattle.transcript.proofs.run_image.Goals as goal

pub returns-in-Err : goal.returns-in-Err
unfolding printed
returns-in-Err c = refused_put _ _ _ c.from_binary.ensures c.in-Err.is c.from.ensures c.print_refused.ensures

pub returns-in-Ok : goal.returns-in-Ok
unfolding printed
returns-in-Ok c = accepted_put _ _ _ c.from_binary.ensures c.in-Ok.is c.fresh.ensures c.print_runs.ensures
