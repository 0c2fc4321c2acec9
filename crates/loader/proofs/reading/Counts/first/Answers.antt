-- `loader::reading::Counts::first` meets its contract. Assumes nothing.
use mathlib.Core.Path.{refl}
use Rattle.machine.specs.Load.{last_of, any_native, last_is_halt}
use Rattle.loader.specs.Reading.{counts_of, target_of}
use Rattle.loader.proofs.reading.Counts.first.Goals as goal

pub returns : goal.returns
unfolding counts_of last_of any_native last_is_halt target_of
returns c image = refl
