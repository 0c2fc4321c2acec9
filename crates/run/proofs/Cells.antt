-- The cells of the buffer's bytes that a run leaves are those that document 01's run leaves. Assumes nothing.
use Prim.Native.Nat.{ℕ, ◌/◌}
use mathlib.Core.Path.{◌≡◌, refl, ap, ◌∙◌}
use mathlib.Core.List.{List}
use lib.ListN.{length}
use Rattle.machine.specs.declared.Machine.{Machine}
use Rattle.machine.specs.Lookup.{Program}
use Rattle.machine.specs.Run.{Result, course, reported, run}
use Rattle.tables.specs.Tables.{numbers_in}
use Rattle.tables.proofs.Bytes.{length_numbers_in, numbers_sets}
use Rattle.run.specs.Runs.{run_bytes}

-- the same with the buffer's cells
abbrev pub cells : Result → Result
cells x = record { machine = x.machine; ending = x.ending; steps = x.steps; dumped = x.dumped; buffer = numbers_in x.buffer }

run_cells : (p : Program) (limit : ℕ) (dumps : List ℕ) (m : Machine) → cells (run_bytes p limit dumps m) ≡ run p limit (numbers_in dumps) m
unfolding run_bytes run reported
run_cells p limit dumps m = rw (length_numbers_in dumps, numbers_sets (course p limit (length dumps / 8) m).cells dumps 0) refl

pub in_cells : (p : Program) (limit : ℕ) (dumps : List ℕ) (m : Machine) (x : Result) → x ≡ run_bytes p limit dumps m → cells x ≡ run p limit (numbers_in dumps) m
in_cells p limit dumps m x e = ap cells e ∙ run_cells p limit dumps m
