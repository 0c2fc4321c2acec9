-- What a run in place answers, as numbers. Assumes nothing.
use Rattle.std.proofs.Common.{ℕ, ◌≡◌, List, refl}
use Rattle.machine.specs.Ending.{Ending, ending_number}
use Rattle.machine.specs.declared.Machine.{Machine}
use Rattle.machine.specs.Run as definition
use Rattle.label_run.specs.Runs.{ran_by}

pub in_place : (w : definition.Result) (m : Machine) (e : Ending) (steps dumped : ℕ) (dumps : List ℕ) →
    record { machine = m; ending = e; steps = steps; dumped = dumped; buffer = dumps } ≡ w →
    ran_by w ≡ record { ending = ending_number e; steps = steps; dumped = dumped; machine = m; dumps = dumps }
unfolding ran_by
in_place w m e steps dumped dumps gives = rw (← gives) refl
