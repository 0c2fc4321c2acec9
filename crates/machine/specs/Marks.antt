-- Document 01's marks M1 to M10, as one table over the step's definition.
use Rattle.std.specs.Prelude.{ℕ, Bool, true, false, not, ◌&&◌, List, [], ◌∷◌, ◌++◌, eqb, length, replicate}
use Rattle.flag.specs.Flags.{is_set}
use Rattle.inst.specs.Records.{plain}
use Rattle.machine.specs.declared.Machine.{Machine}
use Rattle.machine.specs.Lookup.{Program}
use Rattle.machine.specs.Change.{top}
use Rattle.machine.specs.Step.{Stepped, succeeds, outputs, trap, ill, step}

-- a machine with these cells, the last on top, and 7 at address 1,023
unfoldable pub on : List ℕ → Machine
on cells =
    record { stack = cells; height = length cells; calls = []; call_height = 0; memory = replicate 1023 0 ++ (7 ∷ []); flags = 0; ip = 0; halted = false }

-- what a mark asks of a step: this cell on top, this trap, or the flag clear that the jump with this first byte tests
pub data Asked : Type 0 where
  cell traps clear : ℕ → Asked

unfoldable pub answers : Asked → Stepped → Bool
answers (cell c) (succeeds m) = eqb (top m) c
answers (cell c) (outputs x m) = false
answers (cell c) (trap t m) = false
answers (cell c) ill = false
answers (traps n) (succeeds m) = false
answers (traps n) (outputs x m) = false
answers (traps n) (trap t m) = eqb t n
answers (traps n) ill = false
answers (clear jump) (succeeds m) = not (is_set m.flags jump)
answers (clear jump) (outputs x m) = false
answers (clear jump) (trap t m) = false
answers (clear jump) ill = false

-- a first byte, the cells that its instruction finds, and what is asked
pub record Mark : Type 0 where
  pub typ : ℕ
  pub cells : List ℕ
  pub asked : Asked

abbrev pub mark : ℕ → List ℕ → Asked → Mark
mark typ cells asked = record { typ = typ; cells = cells; asked = asked }

unfoldable pub marks : List Mark
marks =
    -- M1 DEC, M2 INC, M3 IMUL 2^40 × 2^23, M4 IDIV -7 by 2
    mark 4 (0xFFF2FFFFFFFFFFFF ∷ []) (cell 0xFFF2000000000000)
    ∷ mark 3 (0x7FF2FFFFFFFFFFFF ∷ []) (cell 0x7FF2000000000000)
    ∷ mark 7 (0x7FF2010000000000 ∷ 0x7FF2000000800000 ∷ []) (cell 0xFFF2000000000000)
    ∷ mark 8 (0xFFF2000000000007 ∷ 0x7FF2000000000002 ∷ []) (cell 0xFFF2000000000003)
    -- M5 F2U of infinity, M6 F2I of -0.5, M7 and M8 U2F
    ∷ mark 32 (0x7FF0000000000000 ∷ []) (cell 0xFFF3000000000001)
    ∷ mark 31 (0xBFE0000000000000 ∷ []) (cell 0x7FF2000000000000)
    ∷ mark 36 (0xFFF3000000000400 ∷ []) (cell 0x43F0000000000000)
    ∷ mark 36 (0xFFF3000000000401 ∷ []) (cell 0x43EFFFFFFFFFFFFF)
    -- M9 address 1,023 reads, 1,024 traps
    ∷ mark 38 (0x7FF30000000003FF ∷ []) (cell 0x7FF3000000000007)
    ∷ mark 38 (0x7FF3000000000400 ∷ []) (traps 25)
    -- M10 equal cells: GE and LE clear
    ∷ mark 9 (0x7FF2000000000005 ∷ 0x7FF2000000000005 ∷ []) (clear 16)
    ∷ mark 9 (0x7FF2000000000005 ∷ 0x7FF2000000000005 ∷ []) (clear 14)
    ∷ []

-- the record alone in its program
abbrev pub alone : ℕ → Program
alone typ = record { image = []; insts = plain typ 0 ∷ []; labels = []; count = 1 }

unfoldable pub all_hold : List Mark → Bool
all_hold [] = true
all_hold (k ∷ ks) = answers k.asked (step (alone k.typ) (on k.cells)) && all_hold ks
