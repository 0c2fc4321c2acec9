-- Each record leaves less of the file, and has a byte for each image, step and difference.
use Rattle.std.proofs.Common.{◌+◌, ◌≤◌, length}
use Rattle.replay.proofs.replay.Given as goal

abbrev pub invariant-loop-rest : goal.invariant-loop-rest
invariant-loop-rest g l =
    (l.totals.images + length l.rest ≤ length l.bytes)
    × (l.totals.steps + length l.rest ≤ length l.bytes)
    × (l.totals.differ + length l.rest ≤ length l.bytes)

abbrev pub decreases-loop-rest : goal.decreases-loop-rest
decreases-loop-rest g l = length l.rest
