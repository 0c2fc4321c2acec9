-- `inst::same_name` meets its contract. Assumes nothing.
use mathlib.Core.Path.{◌∙◌}
use Rattle.inst.proofs.Names.{equal_is}
use Rattle.inst.proofs.records.same_name.Goals as goal

pub returns : goal.returns
returns c = c.eq.ensures ∙ equal_is _ _
