-- Which slots an untrapped step may leave otherwise than they were, and where its pointer goes, by instruction: a table of its own, apart from the step's
-- definition.
use Rattle.std.specs.Prelude.{ℕ, suc, ◌-◌, Bool, true, false, cond, List, [], ◌∷◌, ◌++◌, ltb}
use Rattle.nan.specs.Cells.{as_u64}
use Rattle.flag.specs.Flags.{is_set}
use Rattle.inst.specs.declared.Inst.{Inst}
use Rattle.machine.specs.declared.Machine.{Machine}
use Rattle.machine.specs.Change.{height_of_calls, cell_at}
use Rattle.machine.specs.Step.{Op, NOP, PUSH, POP, INC, DEC, CMP, SWAP, DUP, BOT, JCC, JMP, CALL, RET, DMP, READ, WRITE, HALT, integer, float, conversion}

-- where the pointer goes: one past; to the label's target where the Boolean holds, else one past, and the label is found in both cases;
-- to the address that is popped; or nowhere
pub data Pointer : Type 0 where
  past : Pointer
  to_label : Bool → Pointer
  to_popped : Pointer
  stays : Pointer

-- slots of the stack, of the call stack and of the memory, whether the flags may differ, whether halted is set, the slots whose cells are dumped, and where
-- the pointer goes
pub record Touches : Type 0 where
  pub stack : List ℕ
  pub calls : List ℕ
  pub memory : List ℕ
  pub flags : Bool
  pub halted : Bool
  pub dumps : List ℕ
  pub pointer : Pointer

-- nothing but the pointer; and slots of the stack
abbrev pub only : Pointer → Touches
only q = record { stack = []; calls = []; memory = []; flags = false; halted = false; dumps = []; pointer = q }

abbrev pub cells : List ℕ → Touches
cells slots = record { stack = slots; calls = []; memory = []; flags = false; halted = false; dumps = []; pointer = past }

-- the slot at a depth, 0 the top; none where the stack isn't that deep
unfoldable pub slot_at : ℕ → Machine → List ℕ
slot_at d m = cond (ltb d m.height) ((m.height - suc d) ∷ []) []

-- Of the instruction with the record i on the machine m. A cell is pushed into the slot behind the top; the top is replaced; of two operands the
-- lower is replaced. So a popped slot keeps its bits
unfoldable pub touches : Inst → Machine → Op → Touches
touches i m NOP = only past
touches i m PUSH = cells (m.height ∷ [])
touches i m POP = only past
touches i m INC = cells (slot_at 0 m)
touches i m DEC = cells (slot_at 0 m)
touches i m CMP = record { stack = []; calls = []; memory = []; flags = true; halted = false; dumps = []; pointer = past }
touches i m SWAP = cells (slot_at 0 m ++ slot_at i.val m)
touches i m DUP = cells (m.height ∷ [])
touches i m BOT = cells (m.height ∷ [])
touches i m JCC = only (to_label (is_set m.flags i.typ))
touches i m JMP = only (to_label true)
touches i m CALL = record { stack = []; calls = height_of_calls m ∷ []; memory = []; flags = false; halted = false; dumps = []; pointer = to_label true }
touches i m RET = only to_popped
touches i m DMP = record { stack = []; calls = []; memory = []; flags = false; halted = false; dumps = slot_at 0 m; pointer = past }
touches i m READ = cells (slot_at 0 m)
touches i m WRITE = record { stack = []; calls = []; memory = as_u64 (cell_at 1 m) ∷ []; flags = false; halted = false; dumps = []; pointer = past }
touches i m HALT = record { stack = []; calls = []; memory = []; flags = false; halted = true; dumps = []; pointer = stays }
touches i m (integer k) = cells (slot_at 1 m)
touches i m (float k) = cells (slot_at 1 m)
touches i m (conversion k) = cells (slot_at 0 m)
