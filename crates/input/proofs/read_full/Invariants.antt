-- Each read that goes on leaves less of the buffer, and its front is what was read.
use Rattle.std.proofs.Common.{◌≡◌, ◌-◌, ◌≤◌, length, take}
use Rattle.std.specs.Io.KnownBytes.{Consumes}
use Rattle.input.proofs.read_full.Given as goal

abbrev pub invariant-loop-at : goal.invariant-loop-at
invariant-loop-at g l =
    record {
      within : l.at ≤ length l.buffer;
      same_room : length l.buffer ≡ length l.initial.buffer;
      bytes : Consumes (g.R.Read.remaining l.initial.input) (g.R.Read.remaining l.input) (take l.at l.buffer);
    }

abbrev pub decreases-loop-at : goal.decreases-loop-at
decreases-loop-at g l = length l.initial.buffer - l.at
