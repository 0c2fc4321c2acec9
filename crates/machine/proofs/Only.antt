-- What is stated of a run is so of one result only. Assumes nothing.
use Prim.Native.Nat.{ℕ, zero, suc, ◌+◌, ◌-◌, ◌≤◌, ◌<◌}
use mathlib.Core.Path.{◌≡◌, refl, ap, ◌∙◌, sym}
use mathlib.Core.Bool.{Bool, true, false, cond}
use mathlib.Core.List.{List, [], ◌∷◌, ◌++◌}
use native.Mathlib.Nat.{zero-add, suc-add}
use native.Mathlib.Omega.{arith}
use lib.Dec.{eqb, ltb}
use lib.ListN.{length, take, drop, length-append, take-append-drop}
use lib.Seq.{length-take-le, drop-append_seam}
use borrow.Author.Tests.{ltb-true, ltb-false, eq-eqb, ne_eqb}
use Rattle.machine.specs.declared.Machine.{Machine}
use Rattle.machine.specs.Ending.{Ending, Halted, Limit, Number}
use Rattle.machine.specs.Lookup.{Program}
use Rattle.machine.specs.Step.{Stepped, succeeds, outputs, trap, ill, step}
use Rattle.machine.specs.Run.{is_ill, is_dump, Result}
use Rattle.machine.specs.Effects.{Effects, Opened, lacking, leaves}
use Rattle.machine.specs.History.{State, History, none, end, end_with, advance, stepped, effects_at, further, history}
use Rattle.machine.specs.Statements.{Request, is_ill_lem, is_full, is_trap, Because, IsHistory, OnlyOneResult}
use Rattle.inst.proofs.Laws.{never}
use Rattle.machine.proofs.Histories.{end_same, none_end}

ended_with : (f : List ℕ → State) (d : List ℕ) → ((l : List ℕ) → (f l).dumps ≡ d) → (o : Opened) (u : State) → end_with f o ≡ end u → u.dumps ≡ d
unfolding end_with
ended_with f d g lacking u e = absurd (none_end u e)
ended_with f d g (leaves l) u e = ap (λ (x : State). x.dumps) (sym (end_same (f l) u e)) ∙ g l

-- what a step adds to the dumps
stepped_dumps : (v : State) (e : Effects) (st : Stepped) (u : State) → stepped v e st ≡ end u
    → (cells : List ℕ) × (u.dumps ≡ v.dumps ++ cells) × (is_dump st ≡ true → 0 < length cells)
unfolding stepped advance is_dump
stepped_dumps v e (succeeds m) u h = ([], ended_with _ _ (λ l. refl) _ u h, λ x. never x)
stepped_dumps v e (outputs c m) u h = (c ∷ [], ended_with _ _ (λ l. refl) _ u h, λ x. omega arith)
stepped_dumps v e (trap t m) u h = ([], ended_with _ _ (λ l. refl) _ u h, λ x. never x)
stepped_dumps v e ill u h = absurd (none_end u h)

-- an ending by its tests, where the last step is no trap
ending_of : (halted used bad : Bool) → Ending
ending_of halted used bad = cond halted Halted (cond used Limit (cond bad (Number 34) (Number 33)))

ending_alike : (a b c x y z : Bool) → a ≡ x → b ≡ y → c ≡ z → ending_of x y z ≡ ending_of a b c
ending_alike a b c x y z e f g = cc

not_ill : (st : Stepped) → is_dump st ≡ true → is_ill st ≡ false
unfolding is_dump is_ill
not_ill (succeeds m) h = refl
not_ill (outputs c m) h = refl
not_ill (trap t m) h = refl
not_ill ill h = never h

-- a result by its parts
made : Machine → Ending → (steps dumped : ℕ) → List ℕ → Result
made m e n d b = record { machine = m; ending = e; steps = n; dumped = d; buffer = b }

same_made : (m m' : Machine) (e e' : Ending) (n n' d d' : ℕ) (b b' : List ℕ) → m ≡ m' → e ≡ e' → n ≡ n' → d ≡ d' → b ≡ b' → made m e n d b ≡ made m' e' n' d' b'
same_made m m' e e' n n' d d' b b' p q r s t = cc

module _ (p : Program) (s : State) where
  further_of : (v u : State) → further p (end v) ≡ end u → (v.machine.halted ≡ false) × (stepped v (effects_at p v.machine) (step p v.machine) ≡ end u)
  unfolding further
  further_of v u e = by v.machine.halted e
    where
      by : (b : Bool) → cond b none (stepped v (effects_at p v.machine) (step p v.machine)) ≡ end u
          → (b ≡ false) × (stepped v (effects_at p v.machine) (step p v.machine) ≡ end u)
      by true f = absurd (none_end u f)
      by false f = (refl, f)

  from : (k : History) (u : State) → further p k ≡ end u → (v : State) × (k ≡ end v) × (length v.dumps ≤ length u.dumps)
  unfolding further
  from none u e = absurd (none_end u e)
  from (end v) u e =
      let d = stepped_dumps v _ _ u (further_of v u e).1 in
      (v, refl, omega (arith, length-append v.dumps d.0, ap length d.1))

  -- a history has each of its beginnings, and no more dumps there
  pub begins : (k d : ℕ) (u : State) → history p s (d + k) ≡ end u → (v : State) × (history p s k ≡ end v) × (length v.dumps ≤ length u.dumps)
  unfolding history
  begins k zero u e = (u, rw zero-add at e, omega arith)
  begins k (suc d) u e =
      let b = from (history p s (d + k)) u (rw suc-add at e) in
      let c = begins k d b.0 b.1 in
      (c.0, c.1, omega (arith, b.2, c.2))

  module _ (q : Request) where
    -- a result's dumps are as many as it reports
    dumps_length : (r : Result) (h : IsHistory p s q r) → length h.last.dumps ≡ length s.dumps + r.dumped
    dumps_length r h =
        ap length h.dumps_are ∙ length-append s.dumps _
        ∙ ap (λ (x : ℕ). length s.dumps + x) (length-take-le r.dumped r.buffer (rw h.size_is h.fits))

    module _ (r r' : Result) (h : IsHistory p s q r) (h' : IsHistory p s q r') where
      -- none is longer than another
      not_longer : r.steps < r'.steps → ⊥
      unfolding history Because stepped is_dump
      not_longer l =
          let z : r'.steps ≡ (r'.steps - suc r.steps) + suc r.steps = omega arith in
          let b = begins (suc r.steps) (r'.steps - suc r.steps) h'.last (rw z at h'.history_is) in
          let f = further_of h.last b.0 (sym (ap (further p) h.history_is) ∙ b.1) in
          let d = stepped_dumps h.last (effects_at p h.last.machine) (step p h.last.machine) b.0 f.1 in
          by b.0 f.0 f.1 d.0 d.1 d.2 b.2 r.ending h.because
        where
          by : (v : State) → h.last.machine.halted ≡ false → stepped h.last (effects_at p h.last.machine) (step p h.last.machine) ≡ end v
              → (cells : List ℕ) → v.dumps ≡ h.last.dumps ++ cells → (is_dump (step p h.last.machine) ≡ true → 0 < length cells)
              → length v.dumps ≤ length h'.last.dumps
              → (e : Ending) → Because p s r.steps q.limit r.dumped (length q.buffer) r.machine e → ⊥
          by v n g cells d o m Halted c = never (sym n ∙ ap (λ (x : Machine). x.halted) (sym h.machine_is) ∙ c)
          by v n g cells d o m Limit c = omega (arith, c.1, h'.within)
          by v n g cells d o m (Number k) (is_ill_lem e i x y) =
              let w : step p h.last.machine ≡ ill = ap (step p) (sym h.machine_is) ∙ i in
              none_end v (sym (ap (stepped h.last _) w) ∙ g)
          by v n g cells d o m (Number k) (is_full e i f x y) =
              let w = o (ap (λ (x : Machine). is_dump (step p x)) (sym h.machine_is) ∙ i) in
              omega (arith, w, f, ap length d, length-append h.last.dumps cells, dumps_length r h, dumps_length r' h', h'.fits)
          by v n g cells d o m (Number k) (is_trap j u e x t) = omega (arith, e, (h'.trap_ends j u _ _ (omega arith) x t).0)

      module _ (e : r.steps ≡ r'.steps) where
        same_last : h.last ≡ h'.last
        same_last = end_same _ _ (sym h.history_is ∙ ap (history p s) e ∙ h'.history_is)

        same_machine : r.machine ≡ r'.machine
        same_machine = h.machine_is ∙ ap (λ (x : State). x.machine) same_last ∙ sym h'.machine_is

        same_dumped : r.dumped ≡ r'.dumped
        same_dumped = omega (arith, dumps_length r h, dumps_length r' h', ap (λ (x : State). length x.dumps) same_last)

        same_buffer : r.buffer ≡ r'.buffer
        same_buffer =
            let f : s.dumps ++ take r.dumped r.buffer ≡ s.dumps ++ take r'.dumped r'.buffer =
            sym h.dumps_are ∙ ap (λ (x : State). x.dumps) same_last ∙ h'.dumps_are in
            let t = sym (drop-append_seam s.dumps _) ∙ ap (drop (length s.dumps)) f ∙ drop-append_seam s.dumps _ in
            let d = h.rest_is ∙ ap (λ (n : ℕ). drop n q.buffer) same_dumped ∙ sym h'.rest_is in
            sym (take-append-drop r.dumped r.buffer) ∙ ap (λ (x : List ℕ). x ++ drop r.dumped r.buffer) t
            ∙ ap (λ (x : List ℕ). take r'.dumped r'.buffer ++ x) d ∙ take-append-drop r'.dumped r'.buffer

    abbrev ending_by : Machine → ℕ → Ending
    ending_by m steps = ending_of m.halted (eqb steps q.limit) (is_ill (step p m))

    ending_is : (r : Result) (X : Type 0) (e : Ending) → Because p s r.steps q.limit r.dumped (length q.buffer) r.machine e
        → (e ≡ ending_by r.machine r.steps → X)
        → ((n k : ℕ) (u : State) → e ≡ Number n → suc k ≡ r.steps → history p s k ≡ end u → step p u.machine ≡ trap n r.machine → X) → X
    unfolding Because ending_of is_ill
    ending_is r X Halted b f g = f (ending_alike r.machine.halted (eqb r.steps q.limit) (is_ill (step p r.machine)) true _ _ b refl refl)
    ending_is r X Limit b f g = f (ending_alike r.machine.halted (eqb r.steps q.limit) (is_ill (step p r.machine)) false true _ b.0 (eq-eqb _ _ b.1) refl)
    ending_is r X (Number n) (is_ill_lem e i x y) f g =
        f (ap Number e ∙ ending_alike _ _ _ false false true x (ne_eqb r.steps q.limit (λ z. omega arith)) (ap is_ill i))
    ending_is r X (Number n) (is_full e i d x y) f g =
        f (ap Number e ∙ ending_alike _ _ _ false false false x (ne_eqb r.steps q.limit (λ z. omega arith)) (not_ill (step p r.machine) i))
    ending_is r X (Number n) (is_trap k u e x t) f g = g n k u refl e x t

    module _ (r r' : Result) (h : IsHistory p s q r) (h' : IsHistory p s q r') where
      same_ending : r.steps ≡ r'.steps → r.ending ≡ r'.ending
      same_ending e =
          ending_is r _ r.ending h.because
          (λ a. ending_is r' _ r'.ending h'.because
          (λ b. a ∙ ap (λ (m : Machine). ending_by m r.steps) (same_machine r r' h h' e) ∙ ap (ending_by r'.machine) e ∙ sym b)
          (λ n k u b x y z. (h.trap_ends k u n _ (omega arith) y z).1 ∙ sym b))
          (λ n k u a x y z. a ∙ sym (h'.trap_ends k u n _ (omega arith) y z).1)

      same_steps : r.steps ≡ r'.steps
      same_steps = by (ltb r.steps r'.steps) refl (ltb r'.steps r.steps) refl
        where
          by : (a : Bool) → ltb r.steps r'.steps ≡ a → (b : Bool) → ltb r'.steps r.steps ≡ b → r.steps ≡ r'.steps
          by true a b c = absurd (not_longer r r' h h' (ltb-true _ _ a))
          by false a true c = absurd (not_longer r' r h' h (ltb-true _ _ c))
          by false a false c = omega (arith, ltb-false r.steps r'.steps a, ltb-false r'.steps r.steps c)

      same_result : r ≡ r'
      unfolding made
      same_result =
          let e = same_steps in
          same_made _ _ _ _ _ _ _ _ _ _ (same_machine r r' h h' e) (same_ending e) e (same_dumped r r' h h' e) (same_buffer r r' h h' e)

pub only_one : OnlyOneResult
only_one = same_result
