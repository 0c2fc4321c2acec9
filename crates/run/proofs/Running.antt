-- The loop of a run: what it keeps, and each turn. Assumes nothing.
use Prim.Native.Nat.{ℕ, ◌<◌, ◌-◌, ◌+◌, ◌/◌}
use mathlib.Core.Path.{◌≡◌, refl, ◌∙◌, sym, ap}
use mathlib.Core.List.{List}
use native.Mathlib.Omega.{arith}
use lib.ListN.{length, take}
use Rattle.machine.specs.declared.Ending.TheVariants as variant
use Rattle.machine.specs.Ending.{Limit}
use Rattle.machine.specs.Lookup.{Program}
use Rattle.machine.specs.Step.{step}
use Rattle.machine.specs.Run.{Course, course}
use Rattle.tables.specs.Tables.{numbers_in}
use Rattle.step_core.specs.declared.Executed.{Executed}
use Rattle.step_core.specs.declared.Arrays.{Arrays}
use Rattle.step_core.specs.Parts.{means}
use Rattle.quick.specs.declared.Reached.{Reached}
use Rattle.known.specs.Known.{AllKnown}
use Rattle.quick.specs.Courses as quick
use Rattle.quick.proofs.Turns.{course_turn}
use Rattle.step.specs.Steps.{Lent, lent, Made}
use Rattle.std.specs.declared.ops.ControlFlow.TheVariants.{Continue, Break}
use Rattle.run.specs.declared.progress.Outcome.{Outcome}
use Rattle.run.specs.Turns.{more, closed, turned, Follows}
use Rattle.run.specs.Runs.{machine_at, Running, Reaches, Ready}
use Rattle.run.proofs.Courses.{more_plus, more_ended, spends, resting}

module _ {p : Program} {xs b₀ : List ℕ} {limit : ℕ} {run : Course} {at : Reached} {n : ℕ} {b : List ℕ} {a : Lent}
    (inv : Running p xs b₀ limit run at n b a) where
  -- no step is left
  pub is_over : at.left ≡ 0 → Reaches run limit b₀ (record { at = at; dumped = n; ending = variant.Limit }) b a.stack a.calls a.memory
  is_over z =
      let e : limit - at.left ≡ limit - at.left + 0 = omega arith in
      record {
        is = ap (λ (k : ℕ). closed k (record { at = at; dumped = n; ending = variant.Limit }) b a.stack a.calls a.memory) e
            ∙ sym (more_ended (limit - at.left) 0 (take n (numbers_in b)) Limit (machine_at at a) refl)
            ∙ ap (more (limit - at.left) (take n (numbers_in b))) (sym (spends p at.left (length b₀ / 8 - n) (machine_at at a) refl z))
            ∙ inv.is;
        long = inv.long;
        written = inv.written;
        fewer = inv.fewer;
        filled = inv.filled;
      }

  -- known steps
  pub known_on : {r : Reached} {b' : Arrays} → quick.Leads xs a.known (machine_at at a) at.left r b'.stack b'.calls b'.memory →
      Running p xs b₀ limit run r n b (lent a.known b')
  known_on {r} {b'} q =
      let e : limit - at.left + (at.left - r.left) ≡ limit - r.left = omega (arith, inv.fewer, q.fewer) in
      let on = course p r.left (length b₀ / 8 - n) (machine_at r (lent a.known b')) in
      record {
        is = ap (λ (k : ℕ). more k (take n (numbers_in b)) on) (sym e)
            ∙ sym (more_plus (limit - at.left) (at.left - r.left) (take n (numbers_in b)) on)
            ∙ ap (more (limit - at.left) (take n (numbers_in b))) (q.leads p inv.over inv.known (length b₀ / 8 - n))
            ∙ inv.is;
        small = q.small;
        fewer = omega (arith, inv.fewer, q.fewer);
        filled = inv.filled;
        long = inv.long;
        written = inv.written;
        over = inv.over;
        known = inv.known;
      }

  module _ (l : 0 < at.left) {x : Executed} (a' : Lent) (made : Made (step p (machine_at at a)) at.flags a.stack a.calls a.memory x a'.stack a'.calls a'.memory) where
    stepped : more (limit - at.left) (take n (numbers_in b)) (turned (machine_at at a) (course p (at.left - 1)) at.left (length b / 8 - n) (means at.flags x a'.stack a'.calls a'.memory)) ≡ run
    stepped =
        rw (inv.long, made.does)
        (ap (more (limit - at.left) (take n (numbers_in b))) (sym (course_turn p at.left (length b₀ / 8 - n) (machine_at at a) l)) ∙ inv.is)

    -- a step, and on
    pub went : {n' : ℕ} {b' : List ℕ} → (AllKnown p xs a.known → AllKnown p xs a'.known) → {on : Reached} →
        Follows x at n b n' b' (Continue on) → Running p xs b₀ limit run on n' b' a'
    went kn {on} q =
        let one : on.left ≡ at.left - 1 = q.followed.2 in
        let e : limit - at.left + 1 ≡ limit - (at.left - 1) = omega (arith, inv.fewer) in
        let fills = q.followed.3 in
        record {
          is = rw (one, ← e, ← inv.long) (sym (q.followed.0 _ _ _ _ _ _ (course p (at.left - 1)) (limit - at.left) made.kept) ∙ stepped);
          small = q.followed.1;
          fewer = omega (arith, inv.fewer, one);
          filled = omega (arith, fills.filled, fills.long);
          long = fills.long ∙ inv.long;
          written = fills.written b₀ inv.written;
          over = inv.over;
          known = kn inv.known;
        }

    -- a step, and the end
    pub ended_by : {n' : ℕ} {b' : List ℕ} {o : Outcome} → Follows x at n b n' b' (Break o) → Reaches run limit b₀ o b' a'.stack a'.calls a'.memory
    ended_by {n'} {b'} {o} q =
        let e : limit - at.left + (at.left - o.at.left) ≡ limit - o.at.left = omega (arith, inv.fewer, q.followed.1) in
        let fills = q.followed.2 in
        record {
          is = ap (λ (k : ℕ). closed k o b' a'.stack a'.calls a'.memory) (sym e)
              ∙ sym (q.followed.0 _ _ _ _ _ _ (course p (at.left - 1)) (limit - at.left) (resting p (at.left - 1)) made.kept)
              ∙ stepped;
          long = fills.long ∙ inv.long;
          written = rw q.followed.3 (fills.written b₀ inv.written);
          fewer = omega (arith, inv.fewer, q.followed.1);
          filled = omega (arith, fills.filled, fills.long, q.followed.3);
        }

  -- a run that goes on has what `steps` requires
  pub ready : Ready p.count at a.known
  ready =
      record {
        small = inv.small;
        listed = λ i h u. (inv.known i h u).below;
      }
