-- What is proved of one step, as statements, for every program and machine: what a trap leaves, and what an untrapped step changes. Definitions only.
use Rattle.std.specs.Prelude.{ℕ, ◌+◌, ◌-◌, ◌≤◌, ◌<◌, ◌≡◌, Bool, true, false, cond, ◌||◌, List, [], ◌∷◌, map, eqb, pos, ◌+ℤ◌, length, get_or, set}
use Rattle.machine.specs.declared.Machine.{Machine}
use Rattle.machine.specs.Change.{height_of_calls}
use Rattle.machine.specs.Lookup.{Program, Found, leads_to, lookup}
use Rattle.machine.specs.Step.{succeeds, outputs, trap, op_of, inst_at, step}
use Rattle.machine.specs.Effects.{Effects, lost, call_gain}
use Rattle.machine.specs.Touches.{Pointer, past, to_label, to_popped, stays, Touches, touches}
use Rattle.machine.specs.History.{effects_at}

-- the call stack of m', after a trap from m: as it was; or, with 27, with one address more in its slot
unfoldable pub CallsLeft : Bool → Machine → Machine → Type 0
CallsLeft true m m' = (m'.calls ≡ set m.calls (height_of_calls m) (m.ip + 1)) × (height_of_calls m' ≡ height_of_calls m + 1)
CallsLeft false m m' = (m'.calls ≡ m.calls) × (height_of_calls m' ≡ height_of_calls m)

-- m' is what the trap t of an instruction with the effects e leaves of m: all but the listed pops, for which there were cells enough, and the
-- address of 27
pub record TrapLeft (e : Effects) (t : ℕ) (m m' : Machine) : Type 0 where
  pub number_from : 20 ≤ t
  pub number_to : t ≤ 32
  pub enough : lost e t ≤ m.height
  pub height_is : m'.height ≡ m.height - lost e t
  pub stack_is : m'.stack ≡ m.stack
  pub calls_are : CallsLeft (eqb t 27) m m'
  pub memory_is : m'.memory ≡ m.memory
  pub flags_are : m'.flags ≡ m.flags
  pub pointer_is : m'.ip ≡ m.ip
  pub halted_is : m'.halted ≡ m.halted

abbrev pub TrapsLeave : Type 0
TrapsLeave = (p : Program) (m : Machine) (t : ℕ) (m' : Machine) → step p m ≡ trap t m' → TrapLeft (effects_at p m) t m m'

-- i is one of these
unfoldable pub is_one_of : List ℕ → ℕ → Bool
is_one_of [] i = false
is_one_of (j ∷ js) i = eqb i j || is_one_of js i

-- ys has as many slots as xs, and differs from it in these at most
pub record Except (slots xs ys : List ℕ) : Type 0 where
  pub size_is : length ys ≡ length xs
  pub others_are : (i : ℕ) → is_one_of slots i ≡ false → get_or ys i 0 ≡ get_or xs i 0

-- the pointer of m' is where it is listed to go from m, where a lookup would find `found`
unfoldable pub PointerIs : Pointer → Found → Machine → Machine → Type 0
PointerIs past found m m' = m'.ip ≡ m.ip + 1
PointerIs (to_label b) found m m' = (t : ℕ) × (found ≡ leads_to t) × (m'.ip ≡ cond b t (m.ip + 1))
PointerIs to_popped found m m' = (0 < height_of_calls m) × (m'.ip ≡ get_or m.calls (height_of_calls m - 1) 0)
PointerIs stays found m m' = m'.ip ≡ m.ip

-- m' differs from m in what is listed at most, its heights by the listed effects, and its pointer is where it is listed to go; `dumped` is as listed
pub record Touched (e : Effects) (w : Touches) (found : Found) (m : Machine) (dumped : List ℕ) (m' : Machine) : Type 0 where
  pub height_is : pos m'.height ≡ pos m.height +ℤ e.gain
  pub call_height_is : pos (height_of_calls m') ≡ pos (height_of_calls m) +ℤ call_gain e.on_calls
  pub stack_is : Except w.stack m.stack m'.stack
  pub calls_are : Except w.calls m.calls m'.calls
  pub memory_is : Except w.memory m.memory m'.memory
  pub flags_are : w.flags ≡ false → m'.flags ≡ m.flags
  pub halted_is : m'.halted ≡ (w.halted || m.halted)
  pub dumps_are : dumped ≡ map (λ (j : ℕ). get_or m.stack j 0) w.dumps
  pub pointer_is : PointerIs w.pointer found m m'

-- what is listed for the instruction at the pointer, and what the lookup of its name would find
abbrev pub touches_at : Program → Machine → Touches
touches_at p m = touches (inst_at p m) m (op_of (inst_at p m).typ)

abbrev pub found_at : Program → Machine → Found
found_at p m = lookup p (inst_at p m)

-- of every untrapped step, one that dumps a cell too
pub record StepsTouch : Type 0 where
  pub success : (p : Program) (m m' : Machine) → step p m ≡ succeeds m' → Touched (effects_at p m) (touches_at p m) (found_at p m) m [] m'
  pub dump : (p : Program) (m : Machine) (c : ℕ) (m' : Machine) → step p m ≡ outputs c m'
      → Touched (effects_at p m) (touches_at p m) (found_at p m) m (c ∷ []) m'
