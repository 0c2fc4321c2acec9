-- `run::execute_program` meets its contract. Assumes nothing.
use Rattle.run.proofs.execute_program.Goals as goal

pub returns : goal.returns
returns g c = rw c.steps.ensures c.execute_in_place-outcome.ensures.gives
