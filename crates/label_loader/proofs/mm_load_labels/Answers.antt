-- `label_loader::mm_load_labels` meets its contract. Assumes nothing.
use Rattle.label_loader.specs.Loading.{load_call}
use Rattle.label_loader.proofs.Answered.{answered}
use Rattle.label_loader.proofs.mm_load_labels.Goals as goal

pub returns : goal.returns
unfolding load_call
returns c = rw c.from.ensures (answered _ _ _ _ _ _ c.load.ensures)
