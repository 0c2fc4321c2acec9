-- `loader::checking::check` meets its contract. Assumes nothing.
use Prim.Native.Nat.{◌-◌}
use lib.ListN.{length}
use Rattle.loader.proofs.Rests.{Checking}
use Rattle.loader.proofs.checking.check.Given as goal

abbrev pub invariant-loop-c : goal.invariant-loop-c
invariant-loop-c l = Checking l.image l.c

abbrev pub decreases-loop-c : goal.decreases-loop-c
decreases-loop-c l = length l.image - l.c.at
