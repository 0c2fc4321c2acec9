-- `loader::fresh` meets its contract. Assumes nothing.
use mathlib.Core.Path.{refl}
use Rattle.machine.specs.Load.{fresh}
use Rattle.loader.specs.Loading.{fresh_at}
use Rattle.loader.proofs.fresh.Goals as goal

pub returns : goal.returns
unfolding fresh_at fresh
returns c = refl
