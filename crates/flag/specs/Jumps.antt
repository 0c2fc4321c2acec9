-- The code's flags by the conditional jumps that test them.
use Rattle.std.specs.Prelude.{ℕ}
use Rattle.flag.specs.declared.Flag.{Flag}
use Rattle.flag.specs.declared.Flag.TheVariants.{E, L, LE, G, GE, NE, Z, NZ}

-- the first byte of a flag's jump
abbrev pub jump_of : Flag → ℕ
jump_of E = 12
jump_of L = 13
jump_of LE = 14
jump_of G = 15
jump_of GE = 16
jump_of NE = 17
jump_of Z = 18
jump_of NZ = 19
