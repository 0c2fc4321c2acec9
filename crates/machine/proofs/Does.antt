-- What one step does, for each instruction and every machine: what it changes, and what a trap leaves.
-- Assumes nothing.
use Prim.Native.Nat.{ℕ, suc, ◌+◌, ◌-◌, ◌≤◌, ◌<◌}
use mathlib.Core.Path.{◌≡◌, refl, sym, ap, ◌∙◌}
use mathlib.Core.Bool.{Bool, true, false, ◌&&◌, ◌||◌}
use mathlib.Core.List.{List, [], ◌∷◌, ◌++◌, map}
use native.Mathlib.Omega.{arith}
use lib.Dec.{eqb, leb, lit≤}
use lib.IntN.{ℤ, pos, neg_ℤ, ◌+ℤ◌}
use lib.ListN.{get_or, set}
use borrow.Author.Tests.{ltb-true, leb-true, lt-ltb}
use Rattle.flag.specs.Flags.{is_set}
use Rattle.integer.specs.Integers.{inc, dec}
use Rattle.inst.specs.declared.Inst.{Inst}
use Rattle.machine.specs.declared.Machine.{Machine}
use Rattle.machine.specs.Limits.{stack_limit, call_limit}
use Rattle.machine.specs.Lookup.{Program, Found, ill_chain, no_label, leads_to}
use Rattle.machine.specs.Change.{height_of_calls, with_stack, with_calls, with_memory, with_flags, moved, stopped, onward, top, popped_by}
use Rattle.machine.specs.Step.{Stepped, succeeds, outputs, trap, ill, Integer, Float, Conversion, Op, NOP, PUSH, POP, INC, DEC, CMP, SWAP, DUP, BOT, JCC, JMP, CALL, RET, DMP, READ, WRITE, HALT, integer, float, conversion, push, pop, adjust, integer_step, float_step, compare, swap, dup, bot, jump_if, jump, call_to, call, ret, dump, convert, read, write, exec, op_of, inst_at, well_state, step}
use Rattle.machine.specs.Effects.{Effects, Calls, opens, closes, keeps, call_gain, listed, effects, lost_at, lost}
use Rattle.machine.specs.History.{effects_at}
use Rattle.machine.specs.Touches.{Pointer, past, to_label, to_popped, Touches, only, cells, slot_at, touches}
use Rattle.machine.specs.Steps.{CallsLeft, TrapLeft, TrapsLeave, Except, PointerIs, Touched, touches_at, found_at, StepsTouch}
use Rattle.inst.proofs.Laws.{by_test, never, and_left, and_right}
use Rattle.machine.proofs.Cases.{must_case, level, less_by}
use Rattle.machine.proofs.Lists.{unchanged, stored, one}

-- the call stack after a step that didn't trap, by the instruction's effect on it
unfoldable pub CallsAre : Calls → Machine → Machine → Type 0
CallsAre keeps m m' = (m'.calls ≡ m.calls) × (height_of_calls m' ≡ height_of_calls m)
CallsAre opens m m' = (height_of_calls m < call_limit) × (m'.calls ≡ set m.calls (height_of_calls m) (m.ip + 1)) × (height_of_calls m' ≡ height_of_calls m + 1)
CallsAre closes m m' = (0 < height_of_calls m) × (m'.calls ≡ m.calls) × (height_of_calls m' ≡ height_of_calls m - 1)

call_gains : (k : Calls) (m m' : Machine) → CallsAre k m m' → pos (height_of_calls m') ≡ pos (height_of_calls m) +ℤ call_gain k
unfolding CallsAre call_gain
call_gains keeps m m' c = ap pos c.1 ∙ level (height_of_calls m)
call_gains opens m m' c = ap pos c.2
call_gains closes m m' c = ap pos c.2 ∙ less_by (height_of_calls m) 1 c.0

pub record Moves (e : Effects) (w : Touches) (found : Found) (m : Machine) (dumped : List ℕ) (m' : Machine) : Type 0 where
  pub limited : m.height ≤ stack_limit → m'.height ≤ stack_limit
  pub called : CallsAre e.on_calls m m'
  pub touched : Touched e w found m dumped m'

-- 27 is only where an address was stacked
unfoldable pub Room : Calls → ℕ → Machine → Type 0
Room keeps t m = eqb t 27 ≡ false
Room opens t m = eqb t 27 ≡ true → height_of_calls m < call_limit
Room closes t m = eqb t 27 ≡ false

-- I holds where a lookup may find an ill chain
unfoldable pub Does : Type 0 → Effects → Touches → Found → Machine → Stepped → Type 0
Does I e w found m (succeeds m') = Moves e w found m [] m'
Does I e w found m (outputs c m') = Moves e w found m (c ∷ []) m'
Does I e w found m (trap t m') = TrapLeft e t m m' × Room e.on_calls t m
Does I e w found m ill = I

-- a trap's number is one of 20 to 32
abbrev numbered : ℕ → Bool
numbered t = leb 20 t && leb t 32

module _ (I : Type 0) (m : Machine) where
  -- a trap that leaves the machine as it was
  as_it_was : (e : Effects) (t : ℕ) → numbered t ≡ true → lost e t ≡ 0 → eqb t 27 ≡ false → TrapLeft e t m m
  unfolding CallsLeft
  as_it_was e t n z o =
      record {
        number_from = leb-true 20 t (and_left _ _ n);
        number_to = leb-true t 32 (and_right (leb 20 t) _ n);
        enough = rw z (omega arith);
        height_is = rw z (omega arith);
        stack_is = refl;
        calls_are = rw o (refl, refl);
        memory_is = refl;
        flags_are = refl;
        pointer_is = refl;
        halted_is = refl;
      }

  module _ (w : Touches) (found : Found) where
    untouched : (g : ℤ) (n : ℕ) (ts : List ℕ) (t : ℕ) → numbered t ≡ true → lost_at n ts t ≡ 0 → eqb t 27 ≡ false
        → Does I (listed g n ts keeps) w found m (trap t m)
    unfolding Does Room
    untouched g n ts t d z o = (as_it_was (listed g n ts keeps) t d z o, o)

    -- a trap that pops n cells
    loses : (g : ℤ) (n : ℕ) (ts : List ℕ) (t : ℕ) → numbered t ≡ true → lost_at n ts t ≡ n → eqb t 27 ≡ false → n ≤ m.height
        → Does I (listed g n ts keeps) w found m (trap t (popped_by n m))
    unfolding Does CallsLeft Room with_stack
    loses g n ts t d z o l = (
      record {
        number_from = leb-true 20 t (and_left _ _ d);
        number_to = leb-true t 32 (and_right (leb 20 t) _ d);
        enough = rw z l;
        height_is = rw z;
        stack_is = refl;
        calls_are = rw o (refl, refl);
        memory_is = refl;
        flags_are = refl;
        pointer_is = refl;
        halted_is = refl;
      },
      o,
    )

    -- an untrapped step to m', by each of its parts
    moves : (e : Effects) (dumped : List ℕ) (m' : Machine) → pos m'.height ≡ pos m.height +ℤ e.gain → (m.height ≤ stack_limit → m'.height ≤ stack_limit)
        → CallsAre e.on_calls m m' → Except w.stack m.stack m'.stack → Except w.calls m.calls m'.calls
        → Except w.memory m.memory m'.memory → (w.flags ≡ false → m'.flags ≡ m.flags) → m'.halted ≡ (w.halted || m.halted)
        → dumped ≡ map (λ (j : ℕ). get_or m.stack j 0) w.dumps → PointerIs w.pointer found m m' → Moves e w found m dumped m'
    moves e dumped m' h l c s k b f d o q =
        record {
          limited = l;
          called = c;
          touched = record {
            height_is = h;
            call_height_is = call_gains e.on_calls m m' c;
            stack_is = s;
            calls_are = k;
            memory_is = b;
            flags_are = f;
            halted_is = d;
            dumps_are = o;
            pointer_is = q;
          };
        }

  module _ (found : Found) where
    -- one further with the stack s of the height h
    stacks : (d : ℤ) (n : ℕ) (ts slots s : List ℕ) (h : ℕ) → pos h ≡ pos m.height +ℤ d → (m.height ≤ stack_limit → h ≤ stack_limit)
        → Except slots m.stack s → Does I (listed d n ts keeps) (cells slots) found m (succeeds (onward (with_stack s h m)))
    unfolding Does CallsAre PointerIs with_stack moved
    stacks d n ts slots s h g l e =
        moves (cells slots) found (listed d n ts keeps) [] _ g l (refl, refl) e (unchanged [] _) (unchanged [] _) (λ _. refl) refl refl refl

    -- as high as it was, and with k cells less
    level_stacks : (n : ℕ) (ts slots s : List ℕ) → Except slots m.stack s
        → Does I (listed (pos 0) n ts keeps) (cells slots) found m (succeeds (onward (with_stack s m.height m)))
    level_stacks n ts slots s e = stacks _ n ts slots s _ (level m.height) (λ l. l) e

    less_stacks : (k n : ℕ) (ts slots s : List ℕ) → k ≤ m.height → Except slots m.stack s
        → Does I (listed (neg_ℤ (pos k)) n ts keeps) (cells slots) found m (succeeds (onward (with_stack s (m.height - k) m)))
    less_stacks k n ts slots s l e = stacks _ n ts slots s _ (less_by m.height k l) (λ b. omega arith) e

    slot_is : (d : ℕ) → d < m.height → slot_at d m ≡ (m.height - suc d) ∷ []
    unfolding slot_at
    slot_is d l = rw (lt-ltb d m.height l)

    -- a cell in the place of the one at the depth d
    at_depth : (d j v : ℕ) → d < m.height → j ≡ m.height - suc d → Except (slot_at d m) m.stack (set m.stack j v)
    at_depth d j v l e = rw (slot_is d l, e) (one m.stack (m.height - suc d) v)

    push_does : (v : ℕ) → Does I (effects PUSH) (cells (m.height ∷ [])) found m (push v m)
    unfolding effects push lost_at
    push_does v =
        must_case (Does I (effects PUSH) _ found m) _ _ _ _ (untouched _ found _ 0 [] 21 refl refl refl)
        (λ b. stacks _ 0 [] _ _ _ refl (λ l. omega (arith, ltb-true m.height stack_limit b)) (one m.stack _ v))

    pop_does : Does I (effects POP) (only past) found m (pop m)
    unfolding effects pop lost_at
    pop_does =
        must_case (Does I (effects POP) _ found m) _ _ _ _ (untouched _ found _ 0 [] 20 refl refl refl)
        (λ b. less_stacks 1 0 [] [] _ (ltb-true 0 m.height b) (unchanged [] _))

    adjust_does : (f : ℕ → ℕ) → Does I (effects INC) (cells (slot_at 0 m)) found m (adjust f m)
    unfolding effects adjust lost_at
    adjust_does f =
        must_case (Does I (effects INC) _ found m) _ _ _ _ (untouched _ found _ 0 [] 20 refl refl refl)
        (λ b. level_stacks 0 [] _ _ (at_depth 0 _ _ (ltb-true 0 m.height b) refl))

    integer_does : (k : Integer) → Does I (effects (integer k)) (cells (slot_at 1 m)) found m (integer_step k m)
    unfolding effects integer_step lost_at with_stack
    integer_does k =
        let w = cells (slot_at 1 m) in
        let P = Does I (effects (integer k)) w found m in
        let ts : List ℕ = 24 ∷ 30 ∷ 31 ∷ [] in
        must_case P _ _ _ _ (untouched w found _ 1 ts 20 refl refl refl) λ b.
        let h = leb-true 2 m.height b in
        let l : 1 ≤ m.height = omega arith in
        must_case P _ _ _ _ (loses w found _ 1 ts 31 refl refl refl l) λ _.
        must_case P _ _ _ _ (loses w found _ 1 ts 30 refl refl refl l) λ _.
        must_case P _ _ _ _ (loses w found _ 1 ts 24 refl refl refl l) λ _.
        less_stacks 1 1 ts _ _ l (at_depth 1 _ _ h (omega arith))

    float_does : (k : Float) → Does I (effects (float k)) (cells (slot_at 1 m)) found m (float_step k m)
    unfolding effects float_step lost_at with_stack
    float_does k =
        must_case (Does I (effects (float k)) _ found m) _ _ _ _ (untouched _ found _ 1 (24 ∷ 30 ∷ 31 ∷ []) 20 refl refl refl)
        (λ b. let h = leb-true 2 m.height b in less_stacks 1 1 _ _ _ (omega arith) (at_depth 1 _ _ h (omega arith)))

    compare_does : (i : Inst) → Does I (effects CMP) (touches i m CMP) found m (compare m)
    unfolding effects touches compare lost_at moved with_stack with_flags Does CallsAre PointerIs
    compare_does i =
        must_case (Does I (effects CMP) (touches i m CMP) found m) _ _ _ _ (untouched (touches i m CMP) found (neg_ℤ (pos 1)) 0 [] 20 refl refl refl) λ b.
        moves (touches i m CMP) found (effects CMP) [] _ (less_by m.height 1 (omega (arith, leb-true 2 m.height b))) (λ l. omega arith) (refl, refl)
        (unchanged [] _) (unchanged [] _) (unchanged [] _) (λ e. never (sym e)) refl refl refl

    swap_does : (d : ℕ) → Does I (effects SWAP) (cells (slot_at 0 m ++ slot_at d m)) found m (swap d m)
    unfolding effects swap lost_at
    swap_does d =
        must_case (Does I (effects SWAP) _ found m) _ _ _ _ (untouched _ found _ 0 [] 20 refl refl refl) λ b.
        let l = ltb-true d m.height b in
        level_stacks 0 [] _ _ (rw (slot_is 0 (omega arith)) (stored m.stack _ _ (slot_at d m) _ (at_depth d _ _ l (omega arith))))

    dup_does : (d : ℕ) → Does I (effects DUP) (cells (m.height ∷ [])) found m (dup d m)
    unfolding effects dup lost_at
    dup_does d = must_case (Does I (effects DUP) _ found m) _ _ _ _ (untouched _ found _ 0 [] 20 refl refl refl) (λ _. push_does _)

    bot_does : Does I (effects BOT) (cells (m.height ∷ [])) found m (bot m)
    unfolding effects bot lost_at
    bot_does = must_case (Does I (effects BOT) _ found m) _ _ _ _ (untouched _ found _ 0 [] 20 refl refl refl) (λ _. push_does _)

    -- the pointer alone
    points : (q : Pointer) (j : ℕ) → PointerIs q found m (moved j m) → Does I (listed (pos 0) 0 [] keeps) (only q) found m (succeeds (moved j m))
    unfolding Does CallsAre moved
    points q j a =
        moves (only q) found (listed (pos 0) 0 [] keeps) [] _ (level m.height) (λ l. l) (refl, refl) (unchanged [] _) (unchanged [] _) (unchanged [] _) (λ _. refl) refl refl a

    nop_does : Does I (effects NOP) (only past) found m (succeeds (onward m))
    unfolding effects PointerIs moved
    nop_does = points past _ refl

    dump_does : (i : Inst) (stream : ℕ) → Does I (effects DMP) (touches i m DMP) found m (dump stream m)
    unfolding effects touches dump lost_at Does CallsAre PointerIs moved
    dump_does i stream =
        let w = touches i m DMP in
        let P = Does I (effects DMP) w found m in
        must_case P _ _ _ _ (untouched w found (pos 0) 0 [] 20 refl refl refl) λ b.
        must_case P _ _ _ _ (untouched w found (pos 0) 0 [] 32 refl refl refl) λ _.
        moves w found (effects DMP) (top m ∷ []) _ (level m.height) (λ l. l) (refl, refl)
        (unchanged [] _) (unchanged [] _) (unchanged [] _) (λ _. refl) refl (rw (slot_is 0 (ltb-true 0 m.height b))) refl

    convert_does : (k : Conversion) → Does I (effects (conversion k)) (cells (slot_at 0 m)) found m (convert k m)
    unfolding effects convert lost_at
    convert_does k =
        let w = cells (slot_at 0 m) in
        let P = Does I (effects (conversion k)) w found m in
        let ts : List ℕ = 28 ∷ 29 ∷ 31 ∷ [] in
        must_case P _ _ _ _ (untouched w found _ 1 ts 20 refl refl refl) λ b.
        let l : 1 ≤ m.height = ltb-true 0 m.height b in
        must_case P _ _ _ _ (loses w found _ 1 ts 31 refl refl refl l) λ _.
        must_case P _ _ _ _ (loses w found _ 1 ts 28 refl refl refl l) λ _.
        must_case P _ _ _ _ (loses w found _ 1 ts 29 refl refl refl l) λ _.
        level_stacks 1 ts _ _ (at_depth 0 _ _ l refl)

    read_does : Does I (effects READ) (cells (slot_at 0 m)) found m (read m)
    unfolding effects read lost_at
    read_does =
        let w = cells (slot_at 0 m) in
        let P = Does I (effects READ) w found m in
        must_case P _ _ _ _ (untouched w found _ 1 (25 ∷ []) 20 refl refl refl) λ b.
        let l = ltb-true 0 m.height b in
        must_case P _ _ _ _ (loses w found _ 1 (25 ∷ []) 25 refl refl refl l) λ _.
        level_stacks 1 _ _ _ (at_depth 0 _ _ l refl)

    write_does : (i : Inst) → Does I (effects WRITE) (touches i m WRITE) found m (write m)
    unfolding effects touches write lost_at moved with_stack with_memory Does CallsAre PointerIs
    write_does i =
        let w = touches i m WRITE in
        let P = Does I (effects WRITE) w found m in
        must_case P _ _ _ _ (untouched w found (neg_ℤ (pos 2)) 2 (25 ∷ []) 20 refl refl refl) λ b.
        let l : 2 ≤ m.height = leb-true 2 m.height b in
        must_case P _ _ _ _ (loses w found (neg_ℤ (pos 2)) 2 (25 ∷ []) 25 refl refl refl l) λ _.
        moves w found (effects WRITE) [] _ (less_by m.height 2 l) (λ h. omega arith) (refl, refl)
        (unchanged [] _) (unchanged [] _) (one m.memory _ _) (λ _. refl) refl refl refl

    ret_does : Does I (effects RET) (only to_popped) found m (ret m)
    unfolding effects ret lost_at moved with_calls Does Room CallsAre PointerIs
    ret_does =
        must_case (Does I (effects RET) (only to_popped) found m) _ _ _ _ (as_it_was (effects RET) _ refl refl refl, refl) λ b.
        let l = ltb-true 0 (height_of_calls m) b in
        moves (only to_popped) found (effects RET) [] _ (level m.height) (λ h. h) (l, refl, refl)
        (unchanged [] _) (unchanged [] _) (unchanged [] _) (λ _. refl) refl refl (l, refl)

    halt_does : (i : Inst) → Does I (effects HALT) (touches i m HALT) found m (succeeds (stopped m))
    unfolding effects touches stopped Does CallsAre PointerIs
    halt_does i =
        moves (touches i m HALT) found (effects HALT) [] _ (level m.height) (λ h. h) (refl, refl)
        (unchanged [] _) (unchanged [] _) (unchanged [] _) (λ _. refl) refl refl refl

  -- jumps and CALL, by what their lookup finds

  jump_if_does : (b : Bool) (f : Found) → (f ≡ ill_chain → I) → Does I (effects JCC) (only (to_label b)) f m (jump_if b f m)
  unfolding effects jump_if lost_at Does PointerIs moved
  jump_if_does b ill_chain i = i refl
  jump_if_does b no_label i = untouched (only (to_label b)) no_label (pos 0) 0 [] 26 refl refl refl
  jump_if_does true (leads_to t) i = points (leads_to t) (to_label true) t (t, refl, refl)
  jump_if_does false (leads_to t) i = points (leads_to t) (to_label false) _ (t, refl, refl)

  jump_does : (f : Found) → (f ≡ ill_chain → I) → Does I (effects JMP) (only (to_label true)) f m (jump f m)
  unfolding effects jump lost_at Does PointerIs moved
  jump_does ill_chain i = i refl
  jump_does no_label i = untouched (only (to_label true)) no_label (pos 0) 0 [] 26 refl refl refl
  jump_does (leads_to t) i = points (leads_to t) (to_label true) t (t, refl, refl)

  call_to_does : (i : Inst) (f : Found) → (f ≡ ill_chain → I) → height_of_calls m < call_limit → Does I (effects CALL) (touches i m CALL) f m (call_to f m)
  unfolding effects touches call_to lost_at Does CallsLeft Room with_calls moved CallsAre PointerIs
  call_to_does i ill_chain h l = h refl
  call_to_does i no_label h l = (
    record {
      number_from = lit≤ tt;
      number_to = lit≤ tt;
      enough = omega arith;
      height_is = omega arith;
      stack_is = refl;
      calls_are = (refl, refl);
      memory_is = refl;
      flags_are = refl;
      pointer_is = refl;
      halted_is = refl;
    },
    λ _. l,
  )
  call_to_does i (leads_to t) h l =
      moves (touches i m CALL) (leads_to t) (effects CALL) [] _ (level m.height) (λ b. b) (l, refl, refl)
      (unchanged [] _) (one m.calls _ _) (unchanged [] _) (λ _. refl) refl refl (t, refl, refl)

  call_does : (i : Inst) (f : Found) → (f ≡ ill_chain → I) → Does I (effects CALL) (touches i m CALL) f m (call f m)
  unfolding effects call lost_at Does Room
  call_does i f h =
      must_case (Does I (effects CALL) (touches i m CALL) f m) _ _ _ _ (as_it_was (effects CALL) 23 refl refl refl, never)
      (λ b. call_to_does i f h (ltb-true (height_of_calls m) call_limit b))

  exec_does : (f : Found) (i : Inst) (op : Op) → (f ≡ ill_chain → I) → Does I (effects op) (touches i m op) f m (exec f i m op)
  unfolding exec touches effects
  exec_does f i NOP h = nop_does f
  exec_does f i PUSH h = push_does f i.val
  exec_does f i POP h = pop_does f
  exec_does f i INC h = adjust_does f inc
  exec_does f i DEC h = adjust_does f dec
  exec_does f i CMP h = compare_does f i
  exec_does f i SWAP h = swap_does f i.val
  exec_does f i DUP h = dup_does f i.val
  exec_does f i BOT h = bot_does f
  exec_does f i JCC h = jump_if_does (is_set m.flags i.typ) f h
  exec_does f i JMP h = jump_does f h
  exec_does f i CALL h = call_does i f h
  exec_does f i RET h = ret_does f
  exec_does f i DMP h = dump_does f i i.val
  exec_does f i READ h = read_does f
  exec_does f i WRITE h = write_does f i
  exec_does f i HALT h = halt_does f i
  exec_does f i (integer k) h = integer_does f k
  exec_does f i (float k) h = float_does f k
  exec_does f i (conversion k) h = convert_does f k

  pub step_does : (p : Program) → (well_state p m ≡ false → I) → (found_at p m ≡ ill_chain → I)
      → Does I (effects_at p m) (touches_at p m) (found_at p m) m (step p m)
  unfolding step Does
  step_does p w h =
      by_test (Does I (effects_at p m) (touches_at p m) (found_at p m) m) (well_state p m) (exec (found_at p m) (inst_at p m) m (op_of (inst_at p m).typ)) ill
      (λ _. exec_does (found_at p m) (inst_at p m) (op_of (inst_at p m).typ) h)
      w

-- for every program and machine

pub anywhere : (p : Program) (m : Machine) → Does (Unit {0}) (effects_at p m) (touches_at p m) (found_at p m) m (step p m)
anywhere p m = step_does (Unit {0}) m p (λ _. tt) (λ _. tt)

pub traps_leave : TrapsLeave
unfolding Does
traps_leave p m t m' e = (rw e at (anywhere p m)).0

pub steps_touch : StepsTouch
unfolding Does
steps_touch =
    record {
      success = λ p m m' e. (rw e at (anywhere p m)).touched;
      dump = λ p m c m' e. (rw e at (anywhere p m)).touched;
    }
