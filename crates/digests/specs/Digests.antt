-- The digest of a machine's whole state after a step, and how far recorded digests are those of a program's steps. No part of document 01: crate replay
-- compares by it.
use Rattle.std.specs.Prelude.{ℕ, suc, ◌+◌, ◌*◌, ◌/◌, ◌%◌, ◌^◌, cond, List, [], ◌∷◌, ◌++◌, eqb, get_or, take}
use Rattle.std.specs.List.{fold}
use Rattle.machine.specs.Ending.{ending_number}
use Rattle.machine.specs.declared.Machine.{Machine}
use Rattle.machine.specs.Change.{height_of_calls}
use Rattle.machine.specs.Lookup.{Program}
use Rattle.machine.specs.Run.{Result, run}

-- the greatest prime below 2 ^ 32: a digest has four bytes
abbrev pub prime : ℕ
prime = 4294967291

-- a number below 2 ^ 32 taken into the digest h
unfoldable pub once : ℕ → ℕ → ℕ
once h half = (h * 257 + half) % prime

-- both halves of a number, the low one first
unfoldable pub mixed : ℕ → ℕ → ℕ
mixed h x = once (once h (x % 2 ^ 32)) (x / 2 ^ 32)

-- what a digest starts with: the ending, the cell that was dumped, and the machine's numbers
abbrev pub numbers : ℕ → ℕ → Machine → List ℕ
numbers ending cell m = ending ∷ cell ∷ m.ip ∷ m.flags ∷ cond m.halted 1 0 ∷ m.height ∷ height_of_calls m ∷ []

-- the numbers, the data stack and the call stack from the bottom, and the memory, one after the other
unfoldable pub digest_of : ℕ → ℕ → Machine → ℕ
digest_of ending cell m = fold mixed 7 (numbers ending cell m ++ take m.height m.stack ++ take (height_of_calls m) m.calls ++ m.memory)

-- one step: a run of limit 1, with a buffer of one cell that holds 0
abbrev pub stepped : Program → Machine → Result
stepped p m = run p 1 (0 ∷ []) m

unfoldable pub digest_after : Result → ℕ
digest_after r = digest_of (ending_number r.ending) (get_or r.buffer 0 0) r.machine

-- how many of the digests are those of the steps from m on, before the first that isn't
unfoldable pub agreeing : Program → Machine → List ℕ → ℕ
agreeing p m [] = 0
agreeing p m (d ∷ ds) = cond (eqb (digest_after (stepped p m)) d) (suc (agreeing p (stepped p m).machine ds)) 0

-- a digest's four bytes, the lowest first
unfoldable pub word : ℕ → ℕ → ℕ → ℕ → ℕ
word a b c d = a + b * 256 + c * 65536 + d * 16777216
