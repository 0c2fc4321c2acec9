-- `loader::from_binary` meets its contract. Assumes nothing.
use mathlib.Core.Path.{◌∙◌}
use Rattle.loader.proofs.Loads.{replied, bytes_left}
use Rattle.loader.proofs.from_binary.Goals as goal

pub returns : goal.returns
returns c =
    let f = c.load.ensures in
    record { answers = replied _ _ f.answers; insts_are = f.insts_are; labels_are = f.labels_are ∙ bytes_left _ _ }
