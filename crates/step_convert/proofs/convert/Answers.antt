-- `step_convert::convert` meets its contract. Assumes nothing.
use Rattle.step_convert.proofs.convert.Goals as goal

pub returns : goal.returns
returns c ca me = rw c.of.ensures at (c.convert.ensures ca me)
