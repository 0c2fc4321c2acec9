-- `inst::long_name_ok` meets its contract. Assumes nothing.
use Rattle.inst.proofs.Names.{ascii_is}
use Rattle.inst.proofs.records.long_name_ok.Goals as goal

pub returns : goal.returns
returns c = ascii_is _ _ c.is_ascii.ensures.cases
