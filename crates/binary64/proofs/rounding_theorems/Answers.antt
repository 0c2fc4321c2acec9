-- The theorems of specs/Theorems hold.
use Rattle.binary64.proofs.Rounded.{theorems}
use Rattle.binary64.proofs.rounding_theorems.Goals as goal

pub returns : goal.returns
returns c = theorems
