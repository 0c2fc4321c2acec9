-- Computed examples: an accepted image run in several pieces, through demand 3, and refused images (5 and 6 in Nops and Labels). Assumes nothing.
use Prim.Native.Nat.{ℕ, zero, suc, ◌≤◌}
use mathlib.Core.Path.{◌≡◌, refl, ◌∙◌}
use mathlib.Core.Bool.{Bool, true, ◌&&◌}
use mathlib.Core.List.{List, [], ◌∷◌, ◌++◌, map}
use native.Mathlib.Omega.{arith}
use lib.Dec.{ltb}
use lib.IntN.{ℤ, pos}
use lib.ListN.{length, replicate}
use borrow.Author.Tests.{ltb-true}
use Rattle.inst.specs.declared.Inst.{Inst}
use Rattle.inst.specs.Forms.{form_of, has_none, has_eight, has_one, has_name}
use Rattle.inst.specs.Records.{Bytes, name_ok, name_in, fits, well_formed, same}
use Rattle.word.specs.Words.{little_endian}
use Rattle.inst_decode.specs.Decode as decode
use Rattle.inst_encode.specs.Encode.{bytes_of}
use Rattle.machine.specs.declared.Label.{Label}
use Rattle.machine.specs.Ending.{Ending, Limit, Number}
use Rattle.machine.specs.Load.{start_name, linked, scan_one, and_then, scan, last_of, any_native, last_is_halt, closed, Loaded, Load, rejects, accepts, checked, entered, finished, loads, load, insts_after, labels_after, fresh, count_of}
use Rattle.machine.specs.Lookup.{walk, lookup_from, lookup}
use Rattle.machine.specs.Change.{with_stack, with_calls, moved, stopped}
use Rattle.machine.specs.Step.{◌must◌else◌then◌, op_of, push, pop, call_to, call, ret, dump, exec, well_state, step}
use Rattle.machine.specs.Run.{is_ill, is_dump, before, taken, turn, course, Result, reported, run}
use Rattle.machine.specs.Effects.{effects, lost_at, effect, drop_last, open_calls_after}
use Rattle.machine.specs.History.{State, initial, History, none, end, end_with, advance, stepped, program_of, further, history}
use Rattle.machine.specs.Statements.{Request, runs, total_steps, all_dumped, last_machine, Counted, Below, loaded_program}
use Rattle.inst.proofs.Laws.{and_left, and_right}
use Rattle.machine.proofs.Runs.{runs_from, runs_are_one_history}

-- images, written with the encoder's definitions

named : ℕ → List ℕ → List ℕ
named typ name = typ ∷ (bytes_of 8 (length name) ++ name)

abbrev five : ℕ
five = 0x7FF2000000000005

-- 0 LABEL _start, 1 PUSH 5, 2 CALL f, 3 POP, 4 POP, 5 HALT, 6 LABEL f, 7 IDMP 1, 8 IDMP 1, 9 RET
image : List ℕ
image =
    named 21 start_name ++ (1 ∷ bytes_of 8 five) ++ named 28 (102 ∷ []) ++ (2 ∷ 2 ∷ 69 ∷ []) ++ named 21 (102 ∷ []) ++ (27 ∷ 1 ∷ 27 ∷ 1 ∷ 29 ∷ [])

-- what it loads to
of_load : Load → Loaded
of_load (rejects n) = record { insts = []; labels = []; ip = 0 }
of_load (accepts l) = l

loaded : Loaded
loaded = of_load (loads image)

insts : List Inst
insts = replicate 4096 (record { typ = 255; val = 1; start = 2; len = 3 })

labels : List Label
labels = replicate 513 (record { start = 9; len = 9; target = 9; next = 9 })

-- every element is a byte
all_bytes : List ℕ → Bool
all_bytes [] = true
all_bytes (b ∷ bs) = ltb b 256 && all_bytes bs

are_bytes : (bs : List ℕ) → all_bytes bs ≡ true → Bytes bs
unfolding all_bytes
are_bytes [] h i = omega arith
are_bytes (b ∷ bs) h zero = ltb-true b 256 (and_left _ _ h)
are_bytes (b ∷ bs) h (suc i) = are_bytes bs (and_right (ltb b 256) _ h) i

bytes : Bytes image
unfolding image named bytes_of all_bytes
bytes = are_bytes image refl

-- Four runs: to the limit inside f; to a dump with the buffer full; on from there to a trap; the trap tried again
requests : List Request
requests =
    record { limit = 3; buffer = 7 ∷ [] }
    ∷ record { limit = 100; buffer = 8 ∷ [] }
    ∷ record { limit = 100; buffer = 9 ∷ 9 ∷ [] }
    ∷ record { limit = 5; buffer = [] }
    ∷ []

results : List Result
results = runs (loaded_program image insts labels loaded) (fresh loaded) requests

-- ending, steps, cells dumped, buffer
record Line : Type 0 where
  ending : Ending
  steps : ℕ
  dumped : ℕ
  buffer : List ℕ

line : Result → Line
line r = record { ending = r.ending; steps = r.steps; dumped = r.dumped; buffer = r.buffer }

report : Ending → ℕ → ℕ → List ℕ → Line
report e s d b = record { ending = e; steps = s; dumped = d; buffer = b }

-- demand 3's history of an image
history_of : List ℕ → Loaded → ℕ → History
history_of image l n = history (program_of image l) (initial (fresh l)) n

-- the open calls, the height and the dumps of a history, if there is one
told : History → List ℕ × ℤ × List ℕ
told none = ([], pos 99, [])
told (end s) = (s.open_calls, s.height, s.dumps)

-- a load's number, 0 where it accepts
number : Load → ℕ
number (rejects n) = n
number (accepts l) = 0

-- LABEL `_start` before these bytes
started : List ℕ → List ℕ
started bytes = named 21 start_name ++ bytes

-- a CALL of a name that no label has
lost : List ℕ
lost = started (named 28 (103 ∷ []))

record Computed : Type 0 where
  accepted : load image insts labels ≡ accepts loaded
  -- HALT is appended, so eleven
  count : length loaded.insts ≡ 11
  lines_are : map line results
      ≡ report Limit 3 0 (7 ∷ []) ∷ report (Number 33) 2 1 (five ∷ []) ∷ report (Number 20) 4 1 (five ∷ 9 ∷ []) ∷ report (Number 20) 1 0 [] ∷ []
  steps : total_steps results ≡ 10
  dumped : all_dumped results ≡ five ∷ five ∷ []
  -- inside f, one call is open; behind the dumps none, and the cell is popped
  inside : told (history_of image loaded 3) ≡ (2 ∷ [], pos 1, [])
  behind : told (history_of image loaded 10) ≡ ([], pos 0, five ∷ five ∷ [])
  -- a CALL of no function, tried twice: an open call at each try, and its address stacked each time
  retried : told (history_of lost (of_load (loads lost)) 3) ≡ (1 ∷ 1 ∷ [], pos 0, [])
  -- HALT is the last step of a history
  halted : history_of (started []) (of_load (loads (started []))) 3 ≡ none
  -- 2 first byte undefined, 3 operand past the end, 4 a name byte of 128, 7 no `_start`, 8 a NATIVE
  refused : map (λ bs. number (loads bs)) ((47 ∷ []) ∷ (1 ∷ 0 ∷ []) ∷ named 12 (128 ∷ []) ∷ (69 ∷ []) ∷ started (named 37 []) ∷ []) ≡ 2 ∷ 3 ∷ 4 ∷ 7 ∷ 8 ∷ []
  -- 10 a table too short, before all others
  short : map number (load image [] labels ∷ load (47 ∷ []) insts [] ∷ []) ≡ 10 ∷ 10 ∷ []
  -- 1 image over 16,384 bytes
  long : number (loads (replicate 16385 0)) ≡ 1

computed : Computed
unfolding image named loaded of_load insts labels bytes_of load loads same linked scan_one and_then scan last_of any_native last_is_halt closed checked entered finished decode.from_bytes decode.read_name decode.read_operand little_endian decode.type_of decode.is_negative form_of has_none has_eight has_one has_name name_ok name_in fits well_formed requests results line report runs run reported course turn taken before is_ill is_dump step well_state exec push pop call_to call ret dump ◌must◌else◌then◌ op_of walk lookup_from lookup with_stack with_calls moved fresh loaded_program insts_after labels_after total_steps all_dumped told number started lost history_of history initial further stepped end_with advance effects lost_at effect drop_last open_calls_after stopped
computed =
    record {
      accepted = refl;
      count = refl;
      lines_are = refl;
      steps = refl;
      dumped = refl;
      inside = refl;
      behind = refl;
      retried = refl;
      halted = refl;
      refused = refl;
      short = refl;
      long = refl;
    }

-- through the theorem: the four runs are one history of ten steps, and its dumps are theirs
retold : (s : State) × (history_of image loaded 10 ≡ end s) × (s.dumps ≡ five ∷ five ∷ []) × (s.machine ≡ last_machine (fresh loaded) results)
unfolding results history_of
retold =
    let t = runs_are_one_history image insts labels loaded bytes computed.accepted requests results (runs_from _ _ requests) in
    (t.last, rw computed.steps at t.history_is, t.dumps_are ∙ computed.dumped, t.machine_is)

-- and at every point of it height and return addresses are those counted
counted : (k : ℕ) → k ≤ 10 → (s : State) × (history_of image loaded k ≡ end s) × Counted s × Below 11 s.machine
unfolding results history_of
counted k h =
    let t = runs_are_one_history image insts labels loaded bytes computed.accepted requests results (runs_from _ _ requests) in
    let c : count_of loaded ≡ 11 = computed.count in
    let a = t.always k (rw computed.steps h) in
    (a.0, a.1, a.2, rw c at a.3)
