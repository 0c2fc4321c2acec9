-- The history of demand 3, as document 01 has it: fed a program, the state that it starts from, and a number of steps.
use Rattle.std.specs.Prelude.{ℕ, zero, suc, cond, List, [], ◌∷◌, ◌++◌, ℤ, pos, ◌+ℤ◌}
use Rattle.machine.specs.declared.Machine.{Machine}
use Rattle.machine.specs.Load.{Loaded, count_of}
use Rattle.machine.specs.Lookup.{Program}
use Rattle.machine.specs.Step.{Stepped, succeeds, outputs, trap, ill, op_of, inst_at, step}
use Rattle.machine.specs.Effects.{Outcome, untrapped, trapped, Effects, effects, effect, Opened, lacking, leaves, open_calls_after}

-- a machine, a height, a list of open calls (those not yet returned from) and a list of dumps
pub record State : Type 0 where
  pub machine : Machine
  pub height : ℤ
  pub open_calls : List ℕ
  pub dumps : List ℕ

-- at first the machine, 0 and two empty lists
unfoldable pub initial : Machine → State
initial m = record { machine = m; height = pos 0; open_calls = []; dumps = [] }

-- a history's end, or no history: an n that it can't reach has none
pub data History : Type 0 where
  none : History
  end : State → History

-- the state with the open calls that are left; none where RET finds no call to remove
unfoldable pub end_with : (List ℕ → State) → Opened → History
end_with state lacking = none
end_with state (leaves l) = end (state l)

-- After a step of an instruction with the effects e that left the machine m: the height gains the listed effect, the open calls change as listed by the
-- step's own index, and the dumped cells are put last.
unfoldable pub advance : State → Effects → Outcome → Machine → List ℕ → History
advance s e o m cells =
    end_with (λ (l : List ℕ). record { machine = m; height = s.height +ℤ effect e o; open_calls = l; dumps = s.dumps ++ cells })
    (open_calls_after e.on_calls o s.machine.ip s.open_calls)

-- always with room for a dump; none where 34 holds
unfoldable pub stepped : State → Effects → Stepped → History
stepped s e (succeeds m) = advance s e untrapped m []
stepped s e (outputs c m) = advance s e untrapped m (c ∷ [])
stepped s e (trap t m) = advance s e (trapped t) m []
stepped s e ill = none

-- the program of an accepted image: the loader's lists and no more
abbrev pub program_of : List ℕ → Loaded → Program
program_of image l = record { image = image; insts = l.insts; labels = l.labels; count = count_of l }

-- the effects listed for the instruction at the pointer
abbrev pub effects_at : Program → Machine → Effects
effects_at p m = effects (op_of (inst_at p m).typ)

-- one step more; none from a halted machine
unfoldable pub further : Program → History → History
further p none = none
further p (end s) = cond s.machine.halted none (stepped s (effects_at p s.machine) (step p s.machine))

-- n steps from the state s
unfoldable pub history : Program → State → ℕ → History
history p s zero = end s
history p s (suc n) = further p (history p s n)
