-- What is proved of runs, as statements: of every run, that it is a history; demand 3; where a name leads; and that no recursion's bound is used up.
-- Definitions only.
use Rattle.std.specs.Prelude.{ℕ, suc, ◌+◌, ◌≤◌, ◌<◌, ◌≡◌, true, false, List, [], ◌∷◌, ◌++◌, map, pos, length, get_or, take, drop}
use Rattle.inst.specs.declared.Inst.{Inst}
use Rattle.inst.specs.Records.{part, Bytes}
use Rattle.machine.specs.declared.Machine.{Machine}
use Rattle.machine.specs.declared.Label.{Label}
use Rattle.machine.specs.Ending.{Ending, Halted, Limit, Number}
use Rattle.machine.specs.Load.{halt, start_name, Loaded, accepts, load, insts_after, labels_after, fresh, count_of, Scan, goes, begin, scan}
use Rattle.machine.specs.Change.{height_of_calls}
use Rattle.machine.specs.Lookup.{Program, Found, ill_chain, no_label, leads_to, walk, lookup}
use Rattle.machine.specs.Step.{trap, ill, step}
use Rattle.machine.specs.Run.{is_dump, Result, run}
use Rattle.machine.specs.History.{State, initial, end, program_of, history}

-- what a run is asked: a limit, and a buffer that is lent
pub record Request : Type 0 where
  pub limit : ℕ
  pub buffer : List ℕ

-- ---- one run, for every program and machine

-- Why a run of p from the state s ends with the number n: after so many steps of its limit, with so many cells dumped of its room, on the machine m
pub data Why (p : Program) (s : State) (steps limit dumped room : ℕ) (m : Machine) (n : ℕ) : Type 0 where
  -- 34, and the limit isn't used up
  is_ill_lem : n ≡ 34 → step p m ≡ ill → m.halted ≡ false → steps < limit → Why p s steps limit dumped room m n
  -- 33, a dump that would succeed with the buffer full
  is_full : n ≡ 33 → is_dump (step p m) ≡ true → dumped ≡ room → m.halted ≡ false → steps < limit → Why p s steps limit dumped room m n
  -- the last step is the trap n
  is_trap : (k : ℕ) (u : State) → suc k ≡ steps → history p s k ≡ end u → step p u.machine ≡ trap n m → Why p s steps limit dumped room m n

-- the condition of each ending
unfoldable pub Because : Program → State → (steps limit dumped room : ℕ) → Machine → Ending → Type 0
Because p s steps limit dumped room m Halted = m.halted ≡ true
Because p s steps limit dumped room m Limit = (m.halted ≡ false) × (steps ≡ limit)
Because p s steps limit dumped room m (Number n) = Why p s steps limit dumped room m n

-- the result r of a run of p from the state s is the history of as many steps as it reports, and its ending's condition holds; the buffer handed back has
-- the length of the one lent
pub record IsHistory (p : Program) (s : State) (q : Request) (r : Result) : Type 0 where
  pub last : State
  pub history_is : history p s r.steps ≡ end last
  pub machine_is : r.machine ≡ last.machine
  pub size_is : length r.buffer ≡ length q.buffer
  pub dumps_are : last.dumps ≡ s.dumps ++ take r.dumped r.buffer
  pub rest_is : drop r.dumped r.buffer ≡ drop r.dumped q.buffer
  pub within : r.steps ≤ q.limit
  pub fits : r.dumped ≤ length q.buffer
  pub because : Because p s r.steps q.limit r.dumped (length q.buffer) r.machine r.ending
  -- a step that traps is the last of the run, which ends with its number
  pub trap_ends : (k : ℕ) (u : State) (t : ℕ) (m : Machine) → k < r.steps → history p s k ≡ end u → step p u.machine ≡ trap t m
      → (suc k ≡ r.steps) × (r.ending ≡ Number t)

-- of every run, from every state with as many open calls as its machine has return addresses
abbrev pub RunsAreHistories : Type 0
RunsAreHistories =
    (p : Program) (s : State) (q : Request) → height_of_calls s.machine ≡ length s.open_calls
    → IsHistory p s q (run p q.limit q.buffer s.machine)

-- and no other result is that history, so that nothing about a run is left free
abbrev pub OnlyOneResult : Type 0
OnlyOneResult = (p : Program) (s : State) (q : Request) (r r' : Result) → IsHistory p s q r → IsHistory p s q r' → r ≡ r'

-- ---- demand 3

-- the machine that the last run left, m where there is none
unfoldable pub last_machine : Machine → List Result → Machine
last_machine m [] = m
last_machine m (r ∷ rs) = last_machine r.machine rs

-- the sum of the reported steps
unfoldable pub total_steps : List Result → ℕ
total_steps [] = 0
total_steps (r ∷ rs) = r.steps + total_steps rs

-- a run's dumped cells are the front of its buffer at that run's return, as many as it reports; joined in order
unfoldable pub all_dumped : List Result → List ℕ
all_dumped [] = []
all_dumped (r ∷ rs) = take r.dumped r.buffer ++ all_dumped rs

-- the return addresses, oldest first
abbrev pub addresses : Machine → List ℕ
addresses m = take (height_of_calls m) m.calls

-- at a point of the history, what is counted is the machine's: its height, and the return addresses are one past the open calls
pub record Counted (s : State) : Type 0 where
  pub height_is : s.height ≡ pos s.machine.height
  pub addresses_are : addresses s.machine ≡ map suc s.open_calls

unfoldable pub AllBelow : ℕ → List ℕ → Type 0
AllBelow n [] = Unit {0}
AllBelow n (x ∷ xs) = (x < n) × AllBelow n xs

-- pointer and return addresses are below the program's length
pub record Below (count : ℕ) (m : Machine) : Type 0 where
  pub pointer_below : m.ip < count
  pub addresses_below : AllBelow count (addresses m)

-- one run of a list: it doesn't end with 34, reports at most its limit, and exactly it where it ends by LIMIT; it hands back a buffer of the
-- length of the one lent, and dumps no more cells than that has
pub record Kept (q : Request) (r : Result) : Type 0 where
  pub never_ill : r.ending ≡ Number 34 → ⊥
  pub within : r.steps ≤ q.limit
  pub exact : r.ending ≡ Limit → r.steps ≡ q.limit
  pub size_is : length r.buffer ≡ length q.buffer
  pub fits : r.dumped ≤ length q.buffer

unfoldable pub AllKept : List Request → List Result → Type 0
AllKept [] [] = Unit {0}
AllKept [] (r ∷ rs) = ⊥
AllKept (q ∷ qs) [] = ⊥
AllKept (q ∷ qs) (r ∷ rs) = Kept q r × AllKept qs rs

-- the results rs of runs, in order from the fresh machine, are those of one history
pub record OneHistory (image : List ℕ) (l : Loaded) (qs : List Request) (rs : List Result) : Type 0 where
  pub last : State
  pub history_is : history (program_of image l) (initial (fresh l)) (total_steps rs) ≡ end last
  pub machine_is : last.machine ≡ last_machine (fresh l) rs
  pub dumps_are : last.dumps ≡ all_dumped rs
  pub always : (k : ℕ) → k ≤ total_steps rs
      → (s : State) × (history (program_of image l) (initial (fresh l)) k ≡ end s) × Counted s × Below (count_of l) s.machine
  pub all_kept : AllKept qs rs

-- each result is what `run` gives for its request and the machine of the one before, the first from m
unfoldable pub RunsFrom : Program → Machine → List Request → List Result → Type 0
RunsFrom p m [] [] = Unit {0}
RunsFrom p m [] (r ∷ rs) = ⊥
RunsFrom p m (q ∷ qs) [] = ⊥
RunsFrom p m (q ∷ qs) (r ∷ rs) = (r ≡ run p q.limit q.buffer m) × RunsFrom p r.machine qs rs

-- such results, computed
unfoldable pub runs : Program → Machine → List Request → List Result
runs p m [] = []
runs p m (q ∷ qs) = let r = run p q.limit q.buffer m in r ∷ runs p r.machine qs

-- what the runs are lent: the image, the tables as load leaves them, and the count
unfoldable pub loaded_program : List ℕ → List Inst → List Label → Loaded → Program
loaded_program image insts labels l =
    record { image = image; insts = insts_after (accepts l) insts; labels = labels_after (accepts l) labels; count = count_of l }

-- Demand 3: the runs of every list, from the fresh machine of every accepted image, are together one history
abbrev pub RunsAreOneHistory : Type 0
RunsAreOneHistory =
    (image : List ℕ) (insts : List Inst) (labels : List Label) (l : Loaded) → Bytes image → load image insts labels ≡ accepts l
    → (qs : List Request) (rs : List Result) → RunsFrom (loaded_program image insts labels l) (fresh l) qs rs → OneHistory image l qs rs

-- ---- names, for every accepted image

-- the instruction i is a LABEL with this name
pub record Labels (image name : List ℕ) (i : Inst) : Type 0 where
  pub is_label_lem : i.typ ≡ 21
  pub name_is : part image i.start i.len ≡ name

-- the instruction with the index k is a definition of the name
abbrev pub Defines : List ℕ → List Inst → List ℕ → ℕ → Type 0
Defines image insts name k = (k < length insts) × Labels image name (get_or insts k halt)

-- and the last one
abbrev pub DefinesLast : List ℕ → List Inst → List ℕ → ℕ → Type 0
DefinesLast image insts name k = Defines image insts name k × ((j : ℕ) → k < j → Defines image insts name j → ⊥)

-- a lookup of the name leads to its last definition, and finds none exactly where there is none; no chain is ill
unfoldable pub FindsLast : List ℕ → List Inst → List ℕ → Found → Type 0
FindsLast image insts name ill_chain = ⊥
FindsLast image insts name no_label = (k : ℕ) → Defines image insts name k → ⊥
FindsLast image insts name (leads_to t) = DefinesLast image insts name t

-- a duplicate takes its last definition: in the lookup of every record's name, and `_start`, where the fresh machine's pointer is
pub record LeadsToLast (image : List ℕ) (l : Loaded) (p : Program) : Type 0 where
  pub names : (i : Inst) → FindsLast image l.insts (part image i.start i.len) (lookup p i)
  pub start : DefinesLast image l.insts start_name (fresh l).ip

abbrev pub NamesLeadToLast : Type 0
NamesLeadToLast =
    (image : List ℕ) (insts : List Inst) (labels : List Label) (l : Loaded) → Bytes image → load image insts labels ≡ accepts l
    → LeadsToLast image l (loaded_program image insts labels l)

-- ---- the numbers that bound the recursions of load and lookup only let the definitions end

-- an image that was read without a number was read to its last byte
abbrev pub ReadsToEnd : Type 0
ReadsToEnd = (image : List ℕ) (s : Scan) → scan (length image) image begin ≡ goes s → length image ≤ s.at

-- a walk from below the bound finds the same with more fuel than the bound
abbrev pub WalksToEnd : Type 0
WalksToEnd = (p : Program) (name : List ℕ) (fuel bound i : ℕ) → 0 < bound → bound ≤ fuel → walk (suc fuel) p name bound i ≡ walk fuel p name bound i
