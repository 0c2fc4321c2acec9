-- The loop of `steps`: what it keeps, and how it ends. Assumes nothing.
use Prim.Native.Nat.{ℕ, ◌*◌, ◌≤◌, ◌<◌, ◌+◌}
use mathlib.Core.Path.{◌≡◌, refl, ◌∙◌}
use mathlib.Core.Bool.{Bool, true, false, cond}
use mathlib.Core.List.{List}
use native.Mathlib.Omega.{arith}
use lib.ListN.{length}
use Rattle.machine.specs.declared.Label.{Label}
use Rattle.machine.specs.declared.Ending.TheVariants.{Limit}
use Rattle.machine.specs.Lookup.{lookup, lookup_from}
use Rattle.machine.specs.Run.{Course}
use Rattle.tables.specs.Tables.{insts_of}
use Rattle.step_core.specs.declared.Executed.{Executed}
use Rattle.step_core.specs.declared.Arrays.{Arrays}
use Rattle.step_core.specs.Parts.{Inside, LookedUp, found_of}
use Rattle.lookup.specs.Walks.{lent_program}
use Rattle.quick.specs.declared.Reached.{Reached}
use Rattle.known.specs.Known.{Listed}
use Rattle.quick.specs.Courses as quick
use Rattle.std.specs.Borrow.{Bor}
use Rattle.step.specs.Steps.{Lent, lent, Told, Tries}
use Rattle.run.specs.declared.progress.Outcome.{Outcome}
use Rattle.run.specs.declared.progress.Asking.{Asking}
use Rattle.std.specs.Prelude.{Ok, Err, Option, Some, None, is_some}
use Rattle.std.specs.declared.ops.ControlFlow.TheVariants.{Continue, Break}
use Rattle.run.specs.Turns.{Follows}
use Rattle.run.specs.Runs.{machine_at, Running, weight, Advances}
use Rattle.run.proofs.Running.{is_over, known_on, went, ended_by}

-- From at₀ and so on, where `asked` was found, the loop has come to `at` and so on. Whatever the labels are: if the run was there, it is here
pub record Loops (image xs : List ℕ) (count : ℕ) (at₀ : Reached) (asked : Option LookedUp) (n₀ : ℕ) (b₀ : List ℕ) (a₀ : Lent)
    (at : Reached) (found : Option LookedUp) (n : ℕ) (b : List ℕ) (a : Lent) : Type 0 where
  pub small : Inside at.regs
  pub filled : n * 8 ≤ length b
  pub long : length b ≡ length b₀
  pub listed : Listed count a.known
  pub fewer : at.left ≤ at₀.left
  pub lighter : found ≡ None → at.left + 1 < weight at₀ asked
  pub runs : (labels : List Label) (buffer : List ℕ) (limit : ℕ) (run : Course) →
      Running (lent_program image (insts_of xs) labels count) xs buffer limit run at₀ n₀ b₀ a₀ → Told (lent_program image (insts_of xs) labels count) xs at₀.regs.ip asked →
      Running (lent_program image (insts_of xs) labels count) xs buffer limit run at n b a × Told (lent_program image (insts_of xs) labels count) xs at.regs.ip found

module _ {image xs : List ℕ} {count : ℕ} where
  pub loop_starts : (at : Reached) (asked : Option LookedUp) (n : ℕ) (b : List ℕ) (a : Lent) → Inside at.regs → n * 8 ≤ length b →
      Listed count a.known → Loops image xs count at asked n b a at asked n b a
  loop_starts at asked n b a small filled listed =
      record {
        small = small;
        filled = filled;
        long = refl;
        listed = listed;
        fewer = omega arith;
        lighter = λ z. rw z (omega arith);
        runs = λ labels buffer limit run here told. (here, told);
      }

  module _ {at₀ : Reached} {asked : Option LookedUp} {n₀ : ℕ} {b₀ : List ℕ} {a₀ : Lent} {at : Reached} {found : Option LookedUp} {n : ℕ} {b : List ℕ} {a : Lent}
      (inv : Loops image xs count at₀ asked n₀ b₀ a₀ at found n b a) where
    some_weight : at.left < weight at₀ asked
    some_weight = by (is_some asked)
      where
        by : (x : Bool) → at.left < at₀.left + cond x 1 2
        by true = omega (arith, inv.fewer)
        by false = omega (arith, inv.fewer)

    -- no step is left
    pub loop_over : at.left ≡ 0 → Advances image xs count at₀ asked n₀ b₀ a₀ (Break (record { at = at; dumped = n; ending = Limit })) n b a
    loop_over z = record { stands = λ labels buffer limit run here told. is_over (inv.runs labels buffer limit run here told).0 z }

    module _ {a' : Lent} where
      -- a question
      pub loop_asks : {name : Bor (List ℕ)} → Tries image xs count at.regs at.flags found a (Err name) a' →
          Advances image xs count at₀ asked n₀ b₀ a₀ (Continue (record { at = at; name = name })) n b a'
      loop_asks tries =
          record {
            stands = λ labels buffer limit run here told.
                let now = inv.runs labels buffer limit run here told in
                let asks = tries.tried labels now.1 in
                (rw asks.2 now.0, asks.1, inv.lighter asks.0);
          }

      module _ (l : 0 < at.left) {n' : ℕ} {b' : List ℕ} {x : Executed} (tries : Tries image xs count at.regs at.flags found a (Ok x) a') where
        -- a step, and the known ones behind it
        pub loop_on : {on : Reached} {r : Reached} {left : Arrays} →
            Follows x at n b n' b' (Continue on) →
            quick.Leads xs a'.known (machine_at on a') on.left r left.stack left.calls left.memory →
            Loops image xs count at₀ asked n₀ b₀ a₀ r None n' b' (lent a'.known left)
        loop_on q k =
            let one = q.followed.2 in
            let fills = q.followed.3 in
            record {
              small = k.small;
              filled = omega (arith, fills.filled, fills.long);
              long = fills.long ∙ inv.long;
              listed = tries.listed _ (omega arith) inv.listed;
              fewer = omega (arith, k.fewer, one, inv.fewer);
              lighter = λ z. omega (arith, l, k.fewer, one, some_weight);
              runs = λ labels buffer limit run here told.
                  let now = inv.runs labels buffer limit run here told in
                  let made = tries.tried labels now.1 in
                  (known_on (went now.0 l a' made.0 made.1 q) k, tt);
            }

        -- a step, and the end
        pub loop_stops : {o : Outcome} → Follows x at n b n' b' (Break o) → Advances image xs count at₀ asked n₀ b₀ a₀ (Break o) n' b' a'
        loop_stops q =
            record {
              stands = λ labels buffer limit run here told.
                  let now = inv.runs labels buffer limit run here told in
                  let made = tries.tried labels now.1 in
                  ended_by now.0 l a' made.0 q;
            }

-- the run goes on with what was found for the name that it asked for
pub looked_up : {image xs : List ℕ} {count : ℕ} {at : Reached} {found : Option LookedUp} {n : ℕ} {b : List ℕ} {a : Lent} {q : Asking} {n' : ℕ} {b' : List ℕ} {a' : Lent} →
    Advances image xs count at found n b a (Continue q) n' b' a' → (labels : List Label) {b₀ : List ℕ} {limit : ℕ} {run : Course} (r : LookedUp) →
    Running (lent_program image (insts_of xs) labels count) xs b₀ limit run at n b a → Told (lent_program image (insts_of xs) labels count) xs at.regs.ip found →
    found_of r ≡ lookup_from (lent_program image (insts_of xs) labels count) q.name.now labels →
    (Running (lent_program image (insts_of xs) labels count) xs b₀ limit run q.at n' b' a' × Told (lent_program image (insts_of xs) labels count) xs q.at.regs.ip (Some r))
    × (weight q.at (Some r) < weight at found)
unfolding lookup
looked_up advances labels r here told finds =
    let st = advances.stands labels _ _ _ here told in
    ((st.0, rw (← st.1.1) finds), st.2)
