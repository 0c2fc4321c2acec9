-- Changes to a machine, of which the steps are made.
use Rattle.std.specs.Prelude.{ℕ, ◌+◌, ◌-◌, true, List, get_or, set}
use Rattle.machine.specs.declared.Machine.{Machine}

-- the call height; a field's name with a line in it is written in marks
abbrev pub height_of_calls : Machine → ℕ
height_of_calls m = m.call_height

-- the data stack s with the height h, and all else as in m; and so on
unfoldable pub with_stack : List ℕ → ℕ → Machine → Machine
with_stack s h m =
    record { stack = s; height = h; calls = m.calls; call_height = height_of_calls m; memory = m.memory; flags = m.flags; ip = m.ip; halted = m.halted }

unfoldable pub with_calls : List ℕ → ℕ → Machine → Machine
with_calls c h m =
    record { stack = m.stack; height = m.height; calls = c; call_height = h; memory = m.memory; flags = m.flags; ip = m.ip; halted = m.halted }

unfoldable pub with_memory : List ℕ → Machine → Machine
with_memory b m =
    record { stack = m.stack; height = m.height; calls = m.calls; call_height = height_of_calls m; memory = b; flags = m.flags; ip = m.ip; halted = m.halted }

unfoldable pub with_flags : ℕ → Machine → Machine
with_flags f m =
    record { stack = m.stack; height = m.height; calls = m.calls; call_height = height_of_calls m; memory = m.memory; flags = f; ip = m.ip; halted = m.halted }

-- the pointer moved to i
unfoldable pub moved : ℕ → Machine → Machine
moved i m =
    record { stack = m.stack; height = m.height; calls = m.calls; call_height = height_of_calls m; memory = m.memory; flags = m.flags; ip = i; halted = m.halted }

unfoldable pub stopped : Machine → Machine
stopped m =
    record { stack = m.stack; height = m.height; calls = m.calls; call_height = height_of_calls m; memory = m.memory; flags = m.flags; ip = m.ip; halted = true }

-- success adds 1 to the pointer
abbrev pub onward : Machine → Machine
onward m = moved (m.ip + 1) m

-- the cell at a depth, 0 the top
abbrev pub cell_at : ℕ → Machine → ℕ
cell_at d m = get_or m.stack (m.height - 1 - d) 0

abbrev pub top : Machine → ℕ
top m = get_or m.stack (m.height - 1) 0

abbrev pub bottom : Machine → ℕ
bottom m = get_or m.stack 0 0

abbrev pub pushed : ℕ → Machine → Machine
pushed v m = with_stack (set m.stack m.height v) (m.height + 1) m

-- n cells popped; a popped slot keeps its bits
abbrev pub popped_by : ℕ → Machine → Machine
popped_by n m = with_stack m.stack (m.height - n) m

abbrev pub popped : Machine → Machine
popped m = popped_by 1 m

-- v in the place of the top
abbrev pub replaced : ℕ → Machine → Machine
replaced v m = with_stack (set m.stack (m.height - 1) v) m.height m

-- the top and the cell at a depth exchanged
abbrev pub swapped : ℕ → Machine → Machine
swapped d m =
    with_stack (set (set m.stack (m.height - 1 - d) (top m)) (m.height - 1) (cell_at d m)) m.height m

-- a return address stacked
abbrev pub stacked : ℕ → Machine → Machine
stacked a m = with_calls (set m.calls (height_of_calls m) a) (height_of_calls m + 1) m

-- the pointer at the address that is popped
abbrev pub returned : Machine → Machine
returned m = moved (get_or m.calls (height_of_calls m - 1) 0) (with_calls m.calls (height_of_calls m - 1) m)

-- a byte stored at an address
abbrev pub written : ℕ → ℕ → Machine → Machine
written a b m = with_memory (set m.memory a b) m
