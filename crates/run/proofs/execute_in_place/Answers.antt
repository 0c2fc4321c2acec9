-- `run::execute_in_place` meets its contract. Assumes nothing.
use Rattle.run.proofs.execute_in_place.Goals as goal

pub returns : goal.returns
returns g c =
    let parts = rw (c.read_arrays.ensures, c.from.ensures) at c.execute_parts-outcome.ensures in
    record { answers = parts.answers; gives = rw c.write_outcome.ensures parts.gives }
