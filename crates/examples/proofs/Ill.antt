-- Number 34, computed: each of its cases, and what lies just beside it. Assumes nothing.
use Prim.Native.Nat.{ℕ}
use mathlib.Core.Path.{◌≡◌, refl}
use mathlib.Core.Bool.{false}
use mathlib.Core.List.{List, [], ◌∷◌}
use Rattle.flag.specs.Flags.{is_set}
use Rattle.inst.specs.declared.Inst.{Inst}
use Rattle.inst.specs.Forms.{form_of, has_none, has_eight, has_one, has_name}
use Rattle.inst.specs.Records.{name_ok, name_in, fits, well_formed, same}
use Rattle.machine.specs.declared.Machine.{Machine}
use Rattle.machine.specs.declared.Label.{Label}
use Rattle.machine.specs.Load.{head}
use Rattle.machine.specs.Lookup.{walk, lookup_from, lookup}
use Rattle.machine.specs.Change.{with_calls, moved}
use Rattle.machine.specs.Step.{Stepped, succeeds, outputs, trap, ill, ◌must◌else◌then◌, op_of, jump_if, jump, call_to, call, dump, exec, well_state, step}

-- what a step comes to: 0 it goes on, 1 it dumps, a trap's number, or 34
comes : Stepped → ℕ
comes (succeeds m) = 0
comes (outputs c m) = 1
comes (trap t m) = t
comes ill = 34

-- three names of one byte: f, g, and one that is no name
image : List ℕ
image = 102 ∷ 103 ∷ 200 ∷ []

inst : ℕ → ℕ → ℕ → ℕ → Inst
inst typ val start len = record { typ = typ; val = val; start = start; len = len }

label : ℕ → ℕ → ℕ → ℕ → Label
label start len target n = record { start = start; len = len; target = target; next = n }

at : ℕ → ℕ → ℕ → Machine
at height height_of_calls ip =
    record { stack = 5 ∷ []; height = height; calls = []; call_height = height_of_calls; memory = []; flags = 0; ip = ip; halted = false }

-- the step of one instruction alone in its table
alone : Inst → List Label → Machine → ℕ
alone i labels m = comes (step (record { image = image; insts = i ∷ []; labels = labels; count = 1 }) m)

-- the step of JMP f with these labels
jmp : List Label → ℕ
jmp labels = alone (inst 20 0 0 1) labels (at 1 0 0)

record Computed : Type 0 where
  -- heights over their limits, the pointer not below the count, a count past its table
  state : alone (inst 0 0 0 0) [] (at 1024 1024 0) ∷ alone (inst 0 0 0 0) [] (at 1025 0 0) ∷ alone (inst 0 0 0 0) [] (at 0 1025 0)
      ∷ alone (inst 0 0 0 0) [] (at 0 0 1) ∷ comes (step (record { image = []; insts = []; labels = []; count = 1 }) (at 0 0 0)) ∷ []
      ≡ 0 ∷ 34 ∷ 34 ∷ 34 ∷ 34 ∷ []
  -- first byte undefined, also above 255; unused fields not 0; a stream over 255
  fields : alone (inst 47 0 0 0) [] (at 1 0 0) ∷ alone (inst 276 0 0 1) (head 0 ∷ []) (at 1 0 0) ∷ alone (inst 0 1 0 0) [] (at 1 0 0)
      ∷ alone (inst 1 9 0 1) [] (at 1 0 0) ∷ alone (inst 27 1 0 0) [] (at 1 0 0) ∷ alone (inst 46 256 0 0) [] (at 1 0 0) ∷ []
      ≡ 34 ∷ 34 ∷ 34 ∷ 34 ∷ 1 ∷ 34 ∷ []
  -- a name that ends with the image, one of no byte at its end, one past the end, one with a byte of 200
  names : alone (inst 21 0 1 1) [] (at 0 0 0) ∷ alone (inst 21 0 3 0) [] (at 0 0 0) ∷ alone (inst 21 0 4 0) [] (at 0 0 0) ∷ alone (inst 21 0 2 1) [] (at 0 0 0) ∷ []
      ≡ 0 ∷ 0 ∷ 34 ∷ 34 ∷ []
  -- no head, a head with a field that isn't 0, an index past the table
  heads : jmp [] ∷ jmp (label 0 0 1 0 ∷ []) ∷ jmp (head 1 ∷ []) ∷ jmp (head 0 ∷ []) ∷ [] ≡ 34 ∷ 34 ∷ 34 ∷ 26 ∷ []
  -- the first index may be any in the table, the second has to be below it; records behind the match aren't met
  chain : jmp (head 1 ∷ label 1 1 0 1 ∷ []) ∷ jmp (head 1 ∷ label 1 1 0 2 ∷ label 0 1 0 0 ∷ []) ∷ jmp (head 2 ∷ label 0 1 0 0 ∷ label 1 1 0 1 ∷ [])
      ∷ jmp (head 1 ∷ label 0 1 0 9 ∷ label 2 1 0 0 ∷ []) ∷ jmp (head 1 ∷ label 2 1 0 0 ∷ []) ∷ jmp (head 1 ∷ label 1 3 0 0 ∷ []) ∷ []
      ≡ 34 ∷ 34 ∷ 0 ∷ 0 ∷ 34 ∷ 34 ∷ []
  -- a target past the count is 26 or 27; a conditional jump looks up though its flag is clear; 23 comes before the lookup
  lookups : jmp (head 1 ∷ label 0 1 1 0 ∷ []) ∷ alone (inst 28 0 0 1) (head 1 ∷ label 0 1 1 0 ∷ []) (at 1 0 0) ∷ alone (inst 12 0 0 1) (head 0 ∷ []) (at 1 0 0)
      ∷ alone (inst 12 0 0 1) [] (at 1 0 0) ∷ alone (inst 28 0 0 1) [] (at 1 1024 0) ∷ alone (inst 28 0 0 1) [] (at 1 1023 0) ∷ []
      ≡ 26 ∷ 27 ∷ 26 ∷ 34 ∷ 23 ∷ 34 ∷ []

computed : Computed
unfolding comes image inst label at alone jmp is_set form_of has_none has_eight has_one has_name name_ok name_in fits well_formed same walk lookup_from lookup with_calls moved ◌must◌else◌then◌ op_of jump_if jump call_to call dump exec well_state step
computed = record { state = refl; fields = refl; names = refl; heads = refl; chain = refl; lookups = refl }
