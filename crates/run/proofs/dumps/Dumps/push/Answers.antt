-- `run::dumps::Dumps::push` meets its contract. Assumes nothing.
use mathlib.Core.Path.{refl}
use Rattle.run.proofs.Following.{lent_cell, a_slot}
use Rattle.run.proofs.dumps.Dumps.push.Goals as goal

pub returns-clause-pushes : goal.returns-clause-pushes
returns-clause-pushes c =
    let slot = a_slot _ _ c.args.self.now.inside c.if-self-end-lt-NUMBER.false in
    (slot, refl, lent_cell _ _ _ _ slot c.put_number.ensures)
