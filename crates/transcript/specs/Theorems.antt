-- What is proved of the definitions. `transcript_theorems` in src/lib.rt states that it holds.
use Rattle.std.specs.Prelude.{ℕ, ◌<◌, ◌≡◌}
use Rattle.machine.specs.declared.Machine.{Machine}
use Rattle.machine.specs.Lookup.{Program}
use Rattle.machine.specs.Run.{course}
use Rattle.transcript.specs.Transcript.{in_all}

-- The buffer's size can't be seen: the runs together are one run with room for every cell
abbrev pub BufferUnseen : Type 0
BufferUnseen = (p : Program) (room limit : ℕ) (m : Machine) → 0 < room → in_all limit p room limit m ≡ course p limit limit m
