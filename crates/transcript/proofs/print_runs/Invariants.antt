-- `transcript::print_runs` meets its contract. The invariant: what was printed is the front of what the runs in all print, and each run before ended
-- with a full buffer. Assumes nothing.
use Prim.Native.Nat.{◌-◌}
use mathlib.Core.Path.{◌≡◌}
use lib.ListN.{length}
use Rattle.machine.specs.Ending.{Number}
use Rattle.tables.specs.Tables.{program}
use Rattle.transcript.proofs.Printing.{Printing}
use Rattle.transcript.proofs.print_runs.Given as goal

abbrev pub invariant-loop-dumps : goal.invariant-loop-dumps
invariant-loop-dumps l =
    record {
      buffer : length l.dumps ≡ 512;
      same_reference : l.out.text.ghost_name ≡ l.initial.out.text.ghost_name;
      room : length l.out.text.now ≡ 170131;
      printing : Printing (program l.image l.insts l.labels l.count) l.initial.machine l.fn.text l.out.text.now l.machine (Number 33) l.steps l.out.at;
    }

abbrev pub decreases-loop-dumps : goal.decreases-loop-dumps
decreases-loop-dumps l =
    10000 - l.steps
