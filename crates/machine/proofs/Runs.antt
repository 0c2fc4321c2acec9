-- Demand 3: every list of runs from the fresh machine is one history. Assumes nothing.
use Prim.Native.Nat.{ℕ, zero, suc, ◌+◌, ◌-◌, ◌≤◌, ◌<◌}
use mathlib.Core.Path.{◌≡◌, refl, ap, ◌∙◌, sym, subst}
use mathlib.Core.Bool.{Bool, true, false, cond}
use mathlib.Core.List.{List, [], ◌∷◌, ◌++◌, append_assoc, append-nil}
use native.Mathlib.Nat.{add-zero, add_assoc, zero-add}
use native.Mathlib.Numerals.{add-one}
use native.Mathlib.Omega.{arith}
use lib.ListN.{length, drop, length-replicate}
use lib.Seq.{length-sets}
use Rattle.inst.specs.declared.Inst.{Inst}
use Rattle.inst.specs.Records.{Bytes}
use Rattle.machine.specs.declared.Machine.{Machine}
use Rattle.machine.specs.declared.Label.{Label}
use Rattle.machine.specs.Ending.{Number}
use Rattle.machine.specs.Limits.{stack_limit, call_limit, label_records}
use Rattle.machine.specs.Load.{is_halt, Loaded, accepts, load, insts_after, labels_after, fresh, count_of}
use Rattle.machine.specs.Lookup.{Program, leads_to}
use Rattle.machine.specs.Change.{height_of_calls}
use Rattle.machine.specs.Step.{op_of, inst_at, step}
use Rattle.machine.specs.Run.{Course, course, Result, reported, run}
use Rattle.machine.specs.Effects.{effects}
use Rattle.machine.specs.Touches.{touches}
use Rattle.machine.specs.Steps.{touches_at, found_at}
use Rattle.machine.specs.History.{State, initial, History, none, end, stepped, program_of, effects_at, further, history}
use Rattle.machine.specs.Statements.{Request, runs, last_machine, total_steps, all_dumped, is_ill_lem, is_full, is_trap, Because, AllBelow, Counted, Below, AllKept, RunsFrom, loaded_program, RunsAreOneHistory, NamesLeadToLast}
use Rattle.inst.proofs.Laws.{never}
use Rattle.machine.proofs.Lists.{filled}
use Rattle.machine.proofs.Loads.{AcceptedLoad, load_accepts}
use Rattle.machine.proofs.Does.{Does, step_does, traps_leave}
use Rattle.machine.proofs.Sound.{Sound, counted, below, Ahead, at_halt, ahead, stepped_sound}
use Rattle.machine.proofs.Valid.{Valid, valid}
use Rattle.machine.proofs.Tables.{padded, Inside, name_inside, lookup_is, name_found, inst_is, well_state_lem, step_is}
use Rattle.machine.proofs.Histories.{end_same, none_end, Joined, joins, front}
use Rattle.machine.proofs.Only.{begins}

-- only HALT may be the last instruction
ahead_of : (count : ℕ) (m : Machine) (i : Inst) (b : Bool) → is_halt i ≡ b → (b ≡ false → m.ip + 1 < count)
    → Ahead count m (effects (op_of i.typ)).on_calls (touches i m (op_of i.typ)).pointer
unfolding op_of effects touches
ahead_of count m i true e f = rw e at_halt
ahead_of count m i false e f = ahead (f refl)

module _ (image : List ℕ) (l : Loaded) (v : Valid image l) where
  abbrev count : ℕ
  count = count_of l

  -- the history's program
  abbrev P : Program
  P = program_of image l

  P-is : padded image l [] [] ≡ P
  P-is = rw (append-nil l.insts, append-nil l.labels)

  -- its first state
  abbrev first : State
  first = initial (fresh l)

  start_sound : Sound count first
  unfolding initial fresh AllBelow
  start_sound =
      record {
        height_is = refl;
        height_fits = omega arith;
        called = record {
          addresses_are = refl;
          addresses_below = tt;
          pointer_below = v.start_is.0.0;
          calls_size = length-replicate {A = ℕ} call_limit 0;
          call_height_fits = omega arith;
        };
      }

  module _ (s : State) (h : Sound count s) where
    abbrev m : Machine
    m = s.machine

    height_fits : m.height ≤ stack_limit
    height_fits = h.height_fits

    call_height_fits : height_of_calls m ≤ call_limit
    call_height_fits = h.called.call_height_fits

    pointer_below : m.ip < count
    pointer_below = h.called.pointer_below

    module _ (is : List Inst) (ls : List Label) where
      abbrev lent_tables : Program
      lent_tables = padded image l is ls

      inside : Inside count (found_at lent_tables m)
      inside = rw (lookup_is image l v is ls) (name_inside image l v (inst_at lent_tables m))

      padded_does : Does ⊥ (effects_at lent_tables m) (touches_at lent_tables m) (found_at lent_tables m) m (step lent_tables m)
      unfolding Inside
      padded_does =
          step_does ⊥ m lent_tables (λ w. never (sym w ∙ well_state_lem image l v is ls m height_fits call_height_fits pointer_below))
          (λ e. subst (Inside count) e inside)

    -- the step of the history
    does : Does ⊥ (effects_at P m) (touches_at P m) (found_at P m) m (step P m)
    does = subst (λ (p : Program). Does ⊥ (effects_at p m) (touches_at p m) (found_at p m) m (step p m)) P-is (padded_does [] [])

    leads_inside : (t : ℕ) → found_at P m ≡ leads_to t → t < count
    unfolding Inside
    leads_inside t e = subst (Inside count) e (subst (λ (p : Program). Inside count (found_at p m)) P-is (inside [] []))

    goes_on : Ahead count m (effects_at P m).on_calls (touches_at P m).pointer
    goes_on = ahead_of count m (inst_at P m) (is_halt (inst_at P m)) refl (λ e. rw add-one (v.halts_last m.ip pointer_below e))

    same_inst : (is : List Inst) (ls : List Label) → inst_at (padded image l is ls) m ≡ inst_at P m
    same_inst is ls = inst_is image l v is ls m pointer_below

    -- the step over tables with anything behind the loaded records
    same_step : (is : List Inst) (ls : List Label) → step (padded image l is ls) m ≡ step P m
    same_step is ls =
        step_is image l v is ls m height_fits call_height_fits pointer_below ∙ sym (step_is image l v [] [] m height_fits call_height_fits pointer_below)
        ∙ ap (λ (p : Program). step p m) P-is

    -- so one step more of a history is the same over both
    same_further : (is : List Inst) (ls : List Label) → further (padded image l is ls) (end s) ≡ further P (end s)
    unfolding further
    same_further is ls =
        let e : effects_at (padded image l is ls) m ≡ effects_at P m = ap (λ (i : Inst). effects (op_of i.typ)) (same_inst is ls) in
        rw (same_step is ls, e)

    further_sound : (u : State) → further P (end s) ≡ end u → Sound count u
    unfolding further
    further_sound u e = by m.halted e
      where
        by : (b : Bool) → cond b none (stepped s (effects_at P m) (step P m)) ≡ end u → Sound count u
        by true f = absurd (none_end u f)
        by false f =
            let d = stepped_sound count s h (effects_at P m) (touches_at P m) (found_at P m) goes_on leads_inside (step P m) does in
            subst (Sound count) (end_same d.0 u (sym d.1 ∙ f)) d.2

  from_sound : (k : History) (u : State) → ((s : State) → k ≡ end s → Sound count s) → further P k ≡ end u → Sound count u
  unfolding further
  from_sound none u f e = absurd (none_end u e)
  from_sound (end s) u f e = further_sound s (f s refl) u e

  history_sound : (n : ℕ) (s : State) → history P first n ≡ end s → Sound count s
  unfolding history
  history_sound zero s e = subst (Sound count) (end_same first s e) start_sound
  history_sound (suc n) s e = from_sound (history P first n) s (history_sound n) e

  everywhere : (n : ℕ) (u : State) → history P first n ≡ end u → (k : ℕ) → k ≤ n
      → (s : State) × (history P first k ≡ end s) × Counted s × Below count s.machine
  everywhere n u e k h =
      let z : n ≡ (n - k) + k = omega arith in
      let b = begins P first k (n - k) u (rw z at e) in
      let s = history_sound k b.0 b.1 in
      (b.0, b.1, counted count b.0 s, below count b.0 s)

  module _ (is : List Inst) (ls : List Label) where
    abbrev Q : Program
    Q = padded image l is ls

    -- the history over the lent tables is that over the loader's lists
    same_from : (k : History) → ((s : State) → k ≡ end s → Sound count s) → further Q k ≡ further P k
    unfolding further
    same_from none f = refl
    same_from (end s) f = same_further s (f s refl) is ls

    same_history : (n : ℕ) → history Q first n ≡ history P first n
    unfolding history
    same_history zero = refl
    same_history (suc n) = ap (further Q) (same_history n) ∙ same_from (history P first n) (history_sound n)

    -- no run from a point of the history ends with 34
    not_ill : (steps limit dumped room : ℕ) (last : State) → history Q first steps ≡ end last → Because Q first steps limit dumped room last.machine (Number 34) → ⊥
    unfolding Because Does
    not_ill steps limit dumped room last q (is_ill_lem e i h k) =
        rw i at (padded_does last (history_sound steps last (sym (same_history steps) ∙ q)) is ls)
    not_ill steps limit dumped room last q (is_full e i f h k) = omega arith
    not_ill steps limit dumped room last q (is_trap k u e h t) = omega (arith, (traps_leave Q u.machine 34 last.machine t).number_to)

    -- the runs of a list, from the state s after n steps
    record Chained (n : ℕ) (s : State) (qs : List Request) (rs : List Result) : Type 0 where
      last : State
      history_is : history Q first (n + total_steps rs) ≡ end last
      machine_is : last.machine ≡ last_machine s.machine rs
      dumps_are : last.dumps ≡ s.dumps ++ all_dumped rs
      all_kept : AllKept qs rs

    chained_cons : (n : ℕ) (s : State) (q : Request) (qs : List Request) (r : Course) (rs : List Result)
        (j : Joined Q first n s q.limit (length q.buffer) r) → Chained (n + r.steps) j.last qs rs → Chained n s (q ∷ qs) (reported q.buffer r ∷ rs)
    unfolding total_steps last_machine all_dumped AllKept reported Because
    chained_cons n s q qs r rs j t =
        record {
          last = t.last;
          history_is = rw (← add_assoc) t.history_is;
          machine_is = t.machine_is ∙ ap (λ (x : Machine). last_machine x rs) j.machine_is;
          dumps_are = t.dumps_are ∙ ap (λ (x : List ℕ). x ++ all_dumped rs) j.dumps_are ∙ append_assoc s.dumps r.cells (all_dumped rs)
              ∙ ap (λ (x : List ℕ). s.dumps ++ (x ++ all_dumped rs)) (sym (front r.cells q.buffer j.fits));
          all_kept = (
            record {
              never_ill = λ e. not_ill _ _ _ _ j.last j.history_is (rw (← j.machine_is) at (rw e at j.because));
              within = j.within;
              exact = λ e. let b = (rw e at j.because).1 in omega arith;
              size_is = length-sets q.buffer 0 r.cells;
              fits = j.fits;
            },
            t.all_kept,
          );
        }

    chained : (qs : List Request) (rs : List Result) (n : ℕ) (s : State) → history Q first n ≡ end s → height_of_calls s.machine ≡ length s.open_calls
        → RunsFrom Q s.machine qs rs → Chained n s qs rs
    unfolding RunsFrom run reported total_steps last_machine all_dumped AllKept
    chained [] [] n s e k w = record { last = s; history_is = rw add-zero e; machine_is = refl; dumps_are = sym (append-nil s.dumps); all_kept = tt }
    chained [] (r ∷ rs) n s e k w = absurd w
    chained (q ∷ qs) [] n s e k w = absurd w
    chained (q ∷ qs) (r ∷ rs) n s e k w =
        let c = course Q q.limit (length q.buffer) s.machine in
        let j = joins Q first q.limit (length q.buffer) n s e k in
        let m : r.machine ≡ j.last.machine = ap (λ (x : Result). x.machine) w.0 ∙ sym j.machine_is in
        subst (λ (x : Result). Chained n s (q ∷ qs) (x ∷ rs)) (sym w.0)
        (chained_cons n s q qs c rs j (chained qs rs (n + c.steps) j.last j.history_is j.counts (subst (λ (x : Machine). RunsFrom Q x qs rs) m w.1)))

-- an accepted image, and what its runs are lent
module _ (image : List ℕ) (insts : List Inst) (labels : List Label) (l : Loaded) (bytes : Bytes image) (e : load image insts labels ≡ accepts l) where
  accepted_load : AcceptedLoad image insts labels l
  accepted_load = load_accepts image insts labels l e

  accepted : Valid image l
  accepted = valid image l bytes accepted_load.accepted

  abbrev is' : List Inst
  is' = drop (count_of l) insts

  abbrev ls' : List Label
  ls' = drop (length l.labels) labels

  lent_is : loaded_program image insts labels l ≡ padded image l is' ls'
  unfolding loaded_program insts_after labels_after
  lent_is =
      let c = accepted.chain in
      let is = filled l.insts insts (omega (arith, accepted_load.count_fits, accepted_load.insts_room)) in
      let size : length l.labels ≤ label_records = rw c.labels_are c.fit in
      let ls = filled l.labels labels (omega (arith, accepted_load.labels_room)) in
      rw (is, ls)

-- the runs of a list are an instance
pub runs_from : (p : Program) (m : Machine) (qs : List Request) → RunsFrom p m qs (runs p m qs)
unfolding RunsFrom runs
runs_from p m [] = tt
runs_from p m (q ∷ qs) = (refl, runs_from p (run p q.limit q.buffer m).machine qs)

pub runs_are_one_history : RunsAreOneHistory
unfolding history initial fresh
runs_are_one_history image insts labels l bytes e qs rs w =
    let v = accepted image insts labels l bytes e in
    let is = is' image insts labels l bytes e in
    let ls = ls' image insts labels l bytes e in
    let t = chained image l v is ls qs rs 0 (initial (fresh l)) refl refl (subst (λ (p : Program). RunsFrom p (fresh l) qs rs) (lent_is image insts labels l bytes e) w) in
    let h : history (program_of image l) (initial (fresh l)) (total_steps rs) ≡ end t.last =
    sym (same_history image l v is ls (total_steps rs)) ∙ (rw zero-add at t.history_is) in
    record {
      last = t.last;
      history_is = h;
      machine_is = t.machine_is;
      dumps_are = t.dumps_are;
      always = everywhere image l v _ t.last h;
      all_kept = t.all_kept;
    }

pub names_lead_to_last : NamesLeadToLast
unfolding fresh
names_lead_to_last image insts labels l bytes e =
    let v = accepted image insts labels l bytes e in
    let names = name_found image l v (is' image insts labels l bytes e) (ls' image insts labels l bytes e) in
    record { names = λ i. rw (lent_is image insts labels l bytes e) (names i); start = v.start_is }
