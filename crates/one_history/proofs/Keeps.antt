-- What every run keeps and answers: the arrays' sizes, and an ending that crosses to a host and back. Assumes nothing.
use Prim.Native.Nat.{ℕ, zero, suc, ◌+◌, ◌≤◌}
use mathlib.Core.Path.{◌≡◌, refl, ap, sym, ◌∙◌, subst}
use mathlib.Core.Bool.{Bool, true, false, cond}
use mathlib.Core.List.{List, []}
use lib.Dec.{eqb}
use native.Mathlib.Omega.{arith}
use lib.IntN.{pos}
use lib.ListN.{length, replicate, length-set, length-replicate}
use borrow.Author.Tests.{ne_eqb}
use Rattle.machine.specs.declared.Machine.{Machine}
use Rattle.machine.specs.Ending.{Ending, Halted, Limit, Number}
use Rattle.machine.specs.Change.{height_of_calls}
use Rattle.machine.specs.Lookup.{Program, Found}
use Rattle.machine.specs.Step.{Stepped, succeeds, outputs, trap, ill, step}
use Rattle.machine.specs.Run.{run}
use Rattle.machine.specs.Effects.{Effects, Opened, lacking, leaves}
use Rattle.machine.specs.History.{State, History, none, end, end_with, advance, stepped, effects_at, further, history}
use Rattle.machine.specs.Touches.{Touches}
use Rattle.machine.specs.Steps.{CallsLeft, Touched, TrapLeft}
use Rattle.machine.specs.Statements.{Request, Why, is_ill_lem, is_full, is_trap, Because}
use Rattle.machine.proofs.Does.{traps_leave, steps_touch}
use Rattle.machine.proofs.Histories.{runs_are_histories}
use Rattle.machine.specs.Ending.{ending_number}
use Rattle.machine_bytes.specs.Layout.{Sized}
use Rattle.mm_host.specs.Calls.{no_machine}
use Rattle.one_history.specs.Host.{ending_of}

same_sizes : (m m' : Machine) → Sized m → length m'.stack ≡ length m.stack → length m'.calls ≡ length m.calls → length m'.memory ≡ length m.memory → Sized m'
same_sizes m m' s a b c = record { stack_long = a ∙ s.stack_long; calls_long = b ∙ s.calls_long; memory_long = c ∙ s.memory_long }

touched : (e : Effects) (w : Touches) (f : Found) (m : Machine) (cells : List ℕ) (m' : Machine) → Sized m → Touched e w f m cells m' → Sized m'
touched e w f m cells m' s h = same_sizes m m' s h.stack_is.size_is h.calls_are.size_is h.memory_is.size_is

calls_left : (b : Bool) (m m' : Machine) → CallsLeft b m m' → length m'.calls ≡ length m.calls
unfolding CallsLeft
calls_left true m m' h = ap length h.0 ∙ length-set m.calls (height_of_calls m) (m.ip + 1)
calls_left false m m' h = ap length h.0

left : (e : Effects) (t : ℕ) (m m' : Machine) → Sized m → TrapLeft e t m m' → Sized m'
left e t m m' s h = same_sizes m m' s (ap length h.stack_is) (calls_left (eqb t 27) m m' h.calls_are) (ap length h.memory_is)

-- there is no history to go on with
unreached : {A : Type 0} (u : State) → none ≡ end u → A
unreached u e = let z : ◌≡◌ {A = ℕ} 0 1 = cc in absurd (omega arith)

-- a state that is reached has the machine that the step left
ends_with : (state : List ℕ → State) (o : Opened) (u : State) → end_with state o ≡ end u → ((l : List ℕ) → Sized (state l).machine) → Sized u.machine
unfolding end_with
ends_with state lacking u q f = unreached u q
ends_with state (leaves l) u q f = let d : state l ≡ u = cc in subst (λ (x : State). Sized x.machine) d (f l)

-- a state of m with as many open calls as it has return addresses
abbrev with_calls : Machine → State
with_calls m = record { machine = m; height = pos 0; open_calls = replicate (height_of_calls m) 0; dumps = [] }

all_open : (m : Machine) → height_of_calls m ≡ length (with_calls m).open_calls
all_open m = sym (length-replicate {A = ℕ} (height_of_calls m) 0)

-- along a history
module _ (p : Program) where
  after_step : (v u : State) → Sized v.machine → (st : Stepped) → step p v.machine ≡ st → stepped v (effects_at p v.machine) st ≡ end u → Sized u.machine
  unfolding stepped advance
  after_step v u s (succeeds m) e q = ends_with _ _ u q (λ l. touched _ _ _ _ _ _ s (steps_touch.success p v.machine m e))
  after_step v u s (outputs c m) e q = ends_with _ _ u q (λ l. touched _ _ _ _ _ _ s (steps_touch.dump p v.machine c m e))
  after_step v u s (trap t m) e q = ends_with _ _ u q (λ l. left _ _ _ _ s (traps_leave p v.machine t m e))
  after_step v u s ill e q = unreached u q

  unless_halted : (b : Bool) (v u : State) → Sized v.machine → cond b none (stepped v (effects_at p v.machine) (step p v.machine)) ≡ end u → Sized u.machine
  unless_halted true v u s q = unreached u q
  unless_halted false v u s q = after_step v u s (step p v.machine) refl q

  one_further : (x : History) (u : State) → ((v : State) → x ≡ end v → Sized v.machine) → further p x ≡ end u → Sized u.machine
  unfolding further
  one_further none u f q = unreached u q
  one_further (end v) u f q = unless_halted v.machine.halted v u (f v refl) q

  history_sized : (s : State) → Sized s.machine → (n : ℕ) (u : State) → history p s n ≡ end u → Sized u.machine
  unfolding history
  history_sized s h zero u q = let d : s ≡ u = cc in subst (λ (x : State). Sized x.machine) d h
  history_sized s h (suc n) u q = one_further (history p s n) u (history_sized s h n) q

  pub run_sized : (m : Machine) (q : Request) → Sized m → Sized (run p q.limit q.buffer m).machine
  run_sized m q s =
      let r = runs_are_histories p (with_calls m) q (all_open m) in
      subst Sized (sym r.machine_is) (history_sized (with_calls m) s (run p q.limit q.buffer m).steps r.last r.history_is)

-- the numbers of endings: none is that of HALTED, of LIMIT or of no machine
abbrev pub Told : Ending → Type 0
Told Halted = Unit {0}
Told Limit = Unit {0}
Told (Number n) = (20 ≤ n) × (n ≤ 34)

why_told : (p : Program) (s : State) (steps limit dumped room : ℕ) (m : Machine) (n : ℕ) → Why p s steps limit dumped room m n → (20 ≤ n) × (n ≤ 34)
why_told p s steps limit dumped room m n (is_ill_lem e i h k) = (omega arith, omega arith)
why_told p s steps limit dumped room m n (is_full e i f h k) = (omega arith, omega arith)
why_told p s steps limit dumped room m n (is_trap k u e h t) = let l = traps_leave p u.machine n m t in (l.number_from, omega (arith, l.number_to))

because_told : (p : Program) (s : State) (steps limit dumped room : ℕ) (m : Machine) (e : Ending) → Because p s steps limit dumped room m e → Told e
unfolding Because
because_told p s steps limit dumped room m Halted b = tt
because_told p s steps limit dumped room m Limit b = tt
because_told p s steps limit dumped room m (Number n) b = why_told p s steps limit dumped room m n b

pub run_told : (p : Program) (m : Machine) (q : Request) → Told (run p q.limit q.buffer m).ending
run_told p m q = because_told p (with_calls m) _ _ _ _ _ _ (runs_are_histories p (with_calls m) q (all_open m)).because

pub crosses : (e : Ending) → Told e → ending_of (ending_number e) ≡ e
unfolding ending_number
crosses Halted h = refl
crosses Limit h = refl
crosses (Number n) h = rw (ne_eqb n 0 (λ z. omega arith), ne_eqb n 1 (λ z. omega arith))

pub never_50 : (e : Ending) → Told e → ending_number e ≡ no_machine → ⊥
unfolding ending_number
never_50 Halted h z = omega arith
never_50 Limit h z = omega arith
never_50 (Number n) h z = omega arith
