-- A step keeps what holds at every point of a history. Assumes nothing.
use Prim.Native.Nat.{ℕ, suc, ◌+◌, ◌-◌, ◌≤◌, ◌<◌}
use mathlib.Core.Path.{◌≡◌, refl, ap, ◌∙◌, sym}
use mathlib.Core.Bool.{Bool, true, false, cond}
use mathlib.Core.List.{List, [], ◌∷◌, ◌++◌, map}
use native.Mathlib.Numerals.{add-one}
use native.Mathlib.Omega.{arith}
use lib.Dec.{eqb}
use lib.IntN.{ℤ, pos, neg_ℤ, ◌+ℤ◌}
use lib.ListN.{length, set, length-set, length-take}
use lib.Seq.{take-suc-set, get_or-take}
use Rattle.machine.specs.declared.Machine.{Machine}
use Rattle.machine.specs.Limits.{stack_limit, call_limit}
use Rattle.machine.specs.Change.{height_of_calls}
use Rattle.machine.specs.Step.{Stepped, succeeds, outputs, trap, ill}
use Rattle.machine.specs.Effects.{Outcome, untrapped, trapped, Effects, Calls, opens, closes, keeps, lost, effect, drop_last, leaves, open_calls_after}
use Rattle.machine.specs.History.{State, end, end_with, advance, stepped}
use Rattle.machine.specs.Lookup.{Found, leads_to}
use Rattle.machine.specs.Touches.{Pointer, past, to_label, to_popped, stays, Touches}
use Rattle.machine.specs.Steps.{CallsLeft, TrapLeft, PointerIs}
use Rattle.machine.specs.Statements.{addresses, AllBelow, Counted, Below}
use Rattle.inst.proofs.Laws.{never}
use Rattle.machine.proofs.Cases.{less_by}
use Rattle.machine.proofs.Lists.{map_snoc, map-drop_last, drop_last-take, below_snoc, below_drop_last, below_get_d}
use Rattle.machine.proofs.Does.{CallsAre, Moves, Room, Does}

-- the pointer and the call stack of m, where the calls l are open
pub record Called (count : ℕ) (m : Machine) (l : List ℕ) : Type 0 where
  pub addresses_are : addresses m ≡ map suc l
  pub addresses_below : AllBelow count (addresses m)
  pub pointer_below : m.ip < count
  pub calls_size : length m.calls ≡ call_limit
  pub call_height_fits : height_of_calls m ≤ call_limit

pub record Sound (count : ℕ) (s : State) : Type 0 where
  pub height_is : s.height ≡ pos s.machine.height
  pub height_fits : s.machine.height ≤ stack_limit
  pub called : Called count s.machine s.open_calls

pub counted : (count : ℕ) (s : State) → Sound count s → Counted s
counted count s h = record { height_is = h.height_is; addresses_are = h.called.addresses_are }

pub below : (count : ℕ) (s : State) → Sound count s → Below count s.machine
below count s h = record { pointer_below = h.called.pointer_below; addresses_below = h.called.addresses_below }

-- one past the pointer there is an instruction, or the pointer stays and no call is opened, as with HALT
pub data Ahead (count : ℕ) (m : Machine) : Calls → Pointer → Type 0 where
  at_halt : Ahead count m keeps stays
  ahead : {k : Calls} {q : Pointer} → m.ip + 1 < count → Ahead count m k q

module _ (count : ℕ) where
  abbrev pub In : ℕ → Type 0
  In i = i < count

  module _ (m : Machine) (l : List ℕ) (h : Called count m l) where
    -- the call stack as it was
    alike : (m' : Machine) → m'.calls ≡ m.calls → height_of_calls m' ≡ height_of_calls m → In m'.ip → Called count m' l
    alike m' c d i =
        record {
          addresses_are = rw (c, d) h.addresses_are;
          addresses_below = rw (c, d) h.addresses_below;
          pointer_below = i;
          calls_size = rw c h.calls_size;
          call_height_fits = rw d h.call_height_fits;
        }

    -- one address more
    deeper : (m' : Machine) → height_of_calls m < call_limit → m'.calls ≡ set m.calls (height_of_calls m) (m.ip + 1) → height_of_calls m' ≡ height_of_calls m + 1
        → In (m.ip + 1) → In m'.ip → Called count m' (l ++ (m.ip ∷ []))
    deeper m' r c d a i =
        let q : addresses m' ≡ addresses m ++ ((m.ip + 1) ∷ []) =
        rw (c, d, add-one (height_of_calls m)) (take-suc-set m.calls (height_of_calls m) (m.ip + 1) (rw h.calls_size r)) in
        record {
          addresses_are = q ∙ rw (map_snoc, h.addresses_are, add-one);
          addresses_below = rw q (below_snoc _ _ _ h.addresses_below a);
          pointer_below = i;
          calls_size = rw (c, length-set) h.calls_size;
          call_height_fits = rw d (omega arith);
        }

    -- one address less
    shallower : (m' : Machine) → 0 < height_of_calls m → m'.calls ≡ m.calls → height_of_calls m' ≡ height_of_calls m - 1 → In m'.ip → Called count m' (drop_last l)
    shallower m' r c d i =
        let f = m.calls in
        let k = height_of_calls m - 1 in
        let z : suc k ≡ height_of_calls m = omega arith in
        let fits : k < length f = rw h.calls_size (omega (arith, h.call_height_fits)) in
        let q : addresses m' ≡ drop_last (addresses m) = rw (c, d) (sym (rw z at (drop_last-take f k fits))) in
        record {
          addresses_are = q ∙ ap drop_last h.addresses_are ∙ sym (map-drop_last l);
          addresses_below = rw q (below_drop_last _ _ h.addresses_below);
          pointer_below = i;
          calls_size = rw c h.calls_size;
          call_height_fits = rw d (omega (arith, h.call_height_fits));
        }

    -- where the pointer goes, where no lookup leads past the count
    pointer_in : (k : Calls) (q : Pointer) (found : Found) (m' : Machine) → Ahead count m k q → ((t : ℕ) → found ≡ leads_to t → In t) → PointerIs q found m m'
        → In m'.ip
    unfolding PointerIs
    pointer_in keeps stays found m' at_halt f p = rw p h.pointer_below
    pointer_in k stays found m' (ahead a) f p = rw p h.pointer_below
    pointer_in k past found m' (ahead a) f p = rw p a
    pointer_in k (to_label true) found m' (ahead a) f p = rw p.2 (f p.0 p.1)
    pointer_in k (to_label false) found m' (ahead a) f p = rw p.2 a
    pointer_in k to_popped found m' (ahead a) f p =
        let j = height_of_calls m - 1 in
        let n : j < length (addresses m) = rw length-take (omega (arith, p.0, h.calls_size, h.call_height_fits)) in
        rw p.1 (rw (get_or-take (height_of_calls m) m.calls j 0 (omega (arith, p.0))) at (below_get_d _ _ _ h.addresses_below n))

    one_past : (q : Pointer) → Ahead count m opens q → In (m.ip + 1)
    one_past q (ahead a) = a

    -- the open calls that are left
    abbrev Leaves : Calls → Outcome → Machine → Type 0
    Leaves k o m' = (l' : List ℕ) × (open_calls_after k o m.ip l ≡ leaves l') × Called count m' l'

    called_27 : (b : Bool) (m' : Machine) → CallsLeft b m m' → m'.ip ≡ m.ip → (b ≡ true → (height_of_calls m < call_limit) × In (m.ip + 1))
        → Called count m' (cond b (l ++ (m.ip ∷ [])) l)
    unfolding CallsLeft
    called_27 true m' c i r = deeper m' (r refl).0 c.0 c.1 (r refl).1 (rw i h.pointer_below)
    called_27 false m' c i r = alike m' c.0 c.1 (rw i h.pointer_below)

    -- with any other trap the call stack is as it was
    called_other : (b : Bool) (m' : Machine) → CallsLeft b m m' → m'.ip ≡ m.ip → b ≡ false → Called count m' l
    called_other b m' c i o = called_27 false m' (rw o at c) i (λ e. never e)

    called_trap : (k : Calls) (q : Pointer) (t : ℕ) (m' : Machine) → Ahead count m k q → CallsLeft (eqb t 27) m m' → m'.ip ≡ m.ip → Room k t m
        → Leaves k (trapped t) m'
    unfolding Room open_calls_after
    called_trap keeps q t m' a c i r = (_, refl, called_other (eqb t 27) m' c i r)
    called_trap opens q t m' a c i r = (_, refl, called_27 (eqb t 27) m' c i (λ e. (r e, one_past q a)))
    called_trap closes q t m' a c i r = (_, refl, called_other (eqb t 27) m' c i r)

  called_next : (m : Machine) (l : List ℕ) (h : Called count m l) (k : Calls) (q : Pointer) (m' : Machine) → Ahead count m k q → CallsAre k m m' → In m'.ip
      → Leaves m l h k untrapped m'
  unfolding CallsAre open_calls_after
  called_next m l h keeps q m' a c i = (_, refl, alike m l h m' c.0 c.1 i)
  called_next m l h opens q m' a c i = (_, refl, deeper m l h m' c.0 c.1 c.2 (one_past m l h q a) i)
  called_next m [] h closes q m' a c i = absurd (omega (arith, c.0, rw length-take at (ap length h.addresses_are), h.calls_size, h.call_height_fits))
  called_next m (x ∷ l) h closes q m' a c i = (_, refl, shallower m (x ∷ l) h m' c.0 c.1 c.2 i)

  module _ (s : State) (h : Sound count s) (e : Effects) (w : Touches) (found : Found) (a : Ahead count s.machine e.on_calls w.pointer)
      (f : (t : ℕ) → found ≡ leads_to t → In t) where
    -- the history goes on, and soundly
    abbrev Goes : Outcome → Machine → List ℕ → Type 0
    Goes o m' cells = (u : State) × (advance s e o m' cells ≡ end u) × Sound count u

    goes : (o : Outcome) (m' : Machine) (cells : List ℕ) → s.height +ℤ effect e o ≡ pos m'.height → m'.height ≤ stack_limit
        → Leaves s.machine s.open_calls h.called e.on_calls o m' → Goes o m' cells
    unfolding advance end_with
    goes o m' cells i j c = (_, ap (end_with _) c.1, record { height_is = i; height_fits = j; called = c.2 })

    moves_sound : (m' : Machine) (cells : List ℕ) → Moves e w found s.machine cells m' → Goes untrapped m' cells
    unfolding effect
    moves_sound m' cells d =
        let i = pointer_in s.machine s.open_calls h.called e.on_calls w.pointer found m' a f d.touched.pointer_is in
        goes untrapped m' cells (rw h.height_is (sym d.touched.height_is)) (d.limited h.height_fits)
        (called_next s.machine s.open_calls h.called e.on_calls w.pointer m' a d.called i)

    trap_sound : (t : ℕ) (m' : Machine) → TrapLeft e t s.machine m' → Room e.on_calls t s.machine → Goes (trapped t) m' []
    unfolding effect
    trap_sound t m' d r =
        let m = s.machine in
        goes (trapped t) m' []
        (ap (λ (x : ℤ). x +ℤ neg_ℤ (pos (lost e t))) h.height_is ∙ sym (less_by m.height (lost e t) d.enough) ∙ ap pos (sym d.height_is))
        (rw d.height_is (omega (arith, h.height_fits)))
        (called_trap m s.open_calls h.called e.on_calls w.pointer t m' a d.calls_are d.pointer_is r)

    pub stepped_sound : (r : Stepped) → Does ⊥ e w found s.machine r → (u : State) × (stepped s e r ≡ end u) × Sound count u
    unfolding Does stepped
    stepped_sound (succeeds m') d = moves_sound m' [] d
    stepped_sound (outputs c m') d = moves_sound m' (c ∷ []) d
    stepped_sound (trap t m') d = trap_sound t m' d.0 d.1
    stepped_sound ill d = absurd d
