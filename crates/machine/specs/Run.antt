-- A run (execute_program), as document 01 has it.
use Rattle.std.specs.Prelude.{ℕ, zero, suc, ◌-◌, Bool, true, false, cond, ◌&&◌, List, [], ◌∷◌, ◌++◌, eqb, length}
use Rattle.std.proofs.lemmas.List.Edits.{sets}
use Rattle.machine.specs.declared.Machine.{Machine}
use Rattle.machine.specs.Ending.{Ending, Halted, Limit, Number}
use Rattle.machine.specs.Lookup.{Program}
use Rattle.machine.specs.Step.{Stepped, succeeds, outputs, trap, ill, step}

-- a run's course: the machine at its end, its ending, the steps taken and the cells dumped
pub record Course : Type 0 where
  pub machine : Machine
  pub ending : Ending
  pub steps : ℕ
  pub cells : List ℕ

-- the run ends here, with nothing changed
abbrev pub ended : Ending → Machine → Course
ended e m = record { machine = m; ending = e; steps = 0; cells = [] }

-- one step more, which dumped the cells before
abbrev pub after : List ℕ → Course → Course
after cells r = record { machine = r.machine; ending = r.ending; steps = suc r.steps; cells = cells ++ r.cells }

-- the step would be 34
unfoldable pub is_ill : Stepped → Bool
is_ill (succeeds m) = false
is_ill (outputs c m) = false
is_ill (trap t m) = false
is_ill ill = true

-- the step is a dump that would succeed
unfoldable pub is_dump : Stepped → Bool
is_dump (succeeds m) = false
is_dump (outputs c m) = true
is_dump (trap t m) = false
is_dump ill = false

-- before a step the run ends, or the step is taken
pub data Before : Type 0 where
  ends : Ending → Before
  goes_on : Before

-- Before each step: halted, ends HALTED; limit used up, LIMIT; then 34; then 33, a dump that would succeed with the buffer full.
-- m is the machine, `limit` and `room` are the steps and the slots of the buffer that are left, s is what the step would come to
unfoldable pub before : Machine → ℕ → ℕ → Stepped → Before
before m limit room s =
    cond m.halted (ends Halted)
    (cond (eqb limit 0) (ends Limit)
    (cond (is_ill s) (ends (Number 34))
    (cond (is_dump s && eqb room 0) (ends (Number 33)) goes_on)))

-- A step from m that is taken counts, a trapping one too. A trap ends the run; otherwise `rest` follows. 34 is never taken
unfoldable pub taken : Machine → (ℕ → Machine → Course) → ℕ → Stepped → Course
taken m rest room (succeeds m') = after [] (rest room m')
taken m rest room (outputs c m') = after (c ∷ []) (rest (room - 1) m')
taken m rest room (trap t m') = after [] (ended (Number t) m')
taken m rest room ill = ended (Number 34) m

unfoldable pub turn : Machine → (ℕ → Machine → Course) → ℕ → Stepped → Before → Course
turn m rest room s (ends e) = ended e m
turn m rest room s goes_on = taken m rest room s

-- step by step; with the limit used up there is no rest, and `before` ends the run
unfoldable pub course : Program → ℕ → ℕ → Machine → Course
course p zero room m = let s = step p m in turn m (λ (r : ℕ). ended Limit) room s (before m 0 room s)
course p (suc limit) room m = let s = step p m in turn m (course p limit) room s (before m (suc limit) room s)

-- what a run returns: machine, ending, steps and cells dumped, and the lent buffer as it leaves it
pub record Result : Type 0 where
  pub machine : Machine
  pub ending : Ending
  pub steps : ℕ
  pub dumped : ℕ
  pub buffer : List ℕ

-- dumps fill the lent buffer from its front and the rest of the buffer is unchanged
unfoldable pub reported : List ℕ → Course → Result
reported buffer r =
    record { machine = r.machine; ending = r.ending; steps = r.steps; dumped = length r.cells; buffer = sets buffer 0 r.cells }

unfoldable pub run : Program → ℕ → List ℕ → Machine → Result
run p limit buffer m = reported buffer (course p limit (length buffer) m)
