-- `label_run::mm_run_in_place` meets its contract. Assumes nothing.
use Rattle.label_run.specs.Runs.{run_call}
use Rattle.label_run.proofs.Runs.{in_place}
use Rattle.label_run.proofs.mm_run_in_place.Goals as goal

pub returns : goal.returns
unfolding run_call
returns c = rw (c.new.ensures, c.steps.ensures) (in_place _ _ _ _ _ _ c.execute_in_place-outcome.ensures.gives)
