-- How a run ends, in document 01's words: halt, limit or number.
use Rattle.std.specs.Prelude.{ℕ, ◌≡◌}
use Rattle.machine.specs.declared.Ending as code
use Rattle.machine.specs.declared.Ending.TheVariants as variant
use Rattle.machine.specs.Traps.{trap_number}

pub data Ending : Type 0 where
  Halted : Ending
  Limit : Ending
  Number : ℕ → Ending

-- the code's endings: a trap has its number, 33 is the full buffer and 34 the ill state
abbrev pub ending_of : code.Ending → Ending
ending_of variant.Halted = Halted
ending_of variant.Limit = Limit
ending_of (variant.Trap t) = Number (trap_number t)
ending_of variant.BufferFull = Number 33
ending_of variant.IllState = Number 34

-- no two of the code are one here, so that which one it is here leaves nothing of the code's open
abbrev pub EndingsDiffer : Type 0
EndingsDiffer = (e e' : code.Ending) → ending_of e ≡ ending_of e' → e ≡ e'

-- as a number: 0 HALTED, 1 LIMIT, otherwise document 01's number
unfoldable pub ending_number : Ending → ℕ
ending_number Halted = 0
ending_number Limit = 1
ending_number (Number n) = n
