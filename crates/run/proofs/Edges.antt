-- A run's ends before its first step, and its report. Assumes nothing.
use Prim.Native.Nat.{ℕ, ◌≤◌, ◌<◌, ◌-◌, ◌*◌, ◌/◌}
use mathlib.Core.Path.{◌≡◌, refl, ◌∙◌, sym, ap}
use mathlib.Core.Bool.{Bool, false, and-false}
use mathlib.Core.List.{List}
use mathlib.Core.Logic.{◌⊎◌}
use Rattle.std.proofs.Common.{inl, inr}
use native.Mathlib.Omega.{arith}
use native.Mathlib.Nat.{sub-zero}
use lib.ListN.{length, take, replicate, get_or-replicate}
use lib.Seq.{length-take-le}
use borrow.Author.Tests.{lt-leb}
use Rattle.machine.specs.declared.Label.{Label}
use Rattle.machine.specs.declared.Machine.{Machine}
use Rattle.machine.specs.Change.{height_of_calls}
use Rattle.machine.specs.Limits.{stack_limit, call_limit}
use Rattle.machine.specs.Lookup.{Program}
use Rattle.machine.specs.Step.{well_state}
use Rattle.machine.specs.Run.{ended, course}
use Rattle.tables.specs.Tables.{numbers_in, inst, insts_of}
use Rattle.tables.specs.declared.code.Code.{Code}
use Rattle.std.specs.Prelude.{Ok, Option, Some, None, MatchOption, ok_or}
use Rattle.tables.proofs.Laws.{length_records}
use Rattle.tables.proofs.Bytes.{length_numbers_in}
use Rattle.step_core.specs.declared.Registers.{Registers}
use Rattle.step_core.specs.Parts.{of_parts, Inside}
use Rattle.lookup.specs.Walks.{lent_program}
use Rattle.known.specs.Known.{known_limit, unknown, AllKnown}
use Rattle.machine.specs.declared.Ending as code
use Rattle.machine.specs.declared.Ending.TheVariants as variant
use Rattle.machine.specs.Ending.{ending_of}
use Rattle.step_core.specs.declared.Arrays.{Arrays}
use Rattle.step.specs.Steps.{lent}
use Rattle.quick.specs.declared.Reached.{Reached}
use Rattle.run.specs.declared.progress.Outcome.{Outcome}
use Rattle.run.specs.Turns.{is_halted, closed}
use Rattle.run.specs.Runs.{Begins, Running, Reaches, run_bytes, progress_of, result_of, ExecuteParts}
use Rattle.run.proofs.Courses.{ills, more_none, none_written}
use Rattle.run.proofs.Following.{progress}

-- 34 by a machine's heights, and by a count past the table
module _ (image xs : List ℕ) (labels : List Label) (count : ℕ) (m : Machine) where
  pub too_high : (stack_limit < m.height) ⊎ (m.height ≤ stack_limit × (call_limit < height_of_calls m)) → well_state (lent_program image (insts_of xs) labels count) m ≡ false
  unfolding well_state
  too_high (inl h) = rw (lt-leb _ _ h)
  too_high (inr h) = simp (lt-leb _ _ h.1, and-false)

  pub too_many : length xs < count * 32 → well_state (lent_program image (insts_of xs) labels count) m ≡ false
  unfolding well_state
  too_many h = let l : length (insts_of xs) < count = omega (arith, length_records inst xs) in simp (lt-leb _ _ l, and-false)

-- heights are within their limits, so the program is all that can be ill
pub programmed : (image xs : List ℕ) (count : ℕ) (at : Reached) {h : Bool} (o : Option Code) → h ≡ false → 0 < at.left → Inside at.regs →
    MatchOption o (length xs < count * 32) (λ p. (p.image.now ≡ image) × (p.insts.now ≡ xs) × (p.count ≡ count)) → Begins image xs count at h (ok_or o variant.IllState)
programmed image xs count at (Some p) on l i is = (on, i, is.0, is.1, is.2)
programmed image xs count at None on l i short = (on, λ labels room s ca me. ills _ _ _ _ on l (too_many image xs labels count _ short))

-- a run of m that makes no step
pub at_once : (p : Program) (limit : ℕ) (b : List ℕ) (e : code.Ending) (c : Registers) (f : ℕ) (s ca me : List ℕ) (h : Bool) → h ≡ is_halted (ending_of e) →
    course p limit (length b / 8) (of_parts c f s ca me h) ≡ ended (ending_of e) (of_parts c f s ca me h) →
    Reaches (course p limit (length b / 8) (of_parts c f s ca me h)) limit b (record { at = progress c f limit; dumped = 0; ending = e }) b s ca me
at_once p limit b e c f s ca me h i r =
    let z : limit - limit ≡ 0 = omega arith in
    record {
      is = ap (λ (n : ℕ). closed n (record { at = progress c f limit; dumped = 0; ending = e }) b s ca me) z
          ∙ ap (λ (x : Bool). ended (ending_of e) (of_parts c f s ca me x)) (sym i)
          ∙ sym r;
      long = refl;
      written = none_written b;
      fewer = omega arith;
      filled = omega arith;
    }

-- nothing is known at first
nothing : (p : Program) (xs targets : List ℕ) → AllKnown p xs (record { keys = replicate known_limit unknown; targets = targets })
nothing p xs targets i h u = absurd (u (get_or-replicate known_limit i unknown 0 h))

-- a run that makes steps, of the code p
pub begins : (image xs : List ℕ) (labels : List Label) (count : ℕ) (b : List ℕ) (at : Reached) (a : Arrays) {h : Bool} (p : Code) →
    Begins image xs count at h (Ok p) → p.count * 32 ≤ length p.insts.now →
    Running (lent_program p.image.now (insts_of p.insts.now) labels p.count) p.insts.now b at.left
    (course (lent_program image (insts_of xs) labels count) at.left (length b / 8) (of_parts at.regs at.flags a.stack a.calls a.memory h))
    at 0 b (lent (record { keys = replicate known_limit unknown; targets = replicate known_limit 0 }) a)
begins image xs labels count b at a p on inside =
    let z : at.left - at.left ≡ 0 = omega arith in
    rw (on.0, ← on.2, ← on.3, ← on.4) (record {
      is = simp (z, sub-zero) (more_none _);
      small = on.1;
      fewer = omega arith;
      filled = omega arith;
      long = refl;
      written = none_written b;
      over = record { table = refl; inside = inside };
      known = nothing _ p.insts.now (replicate known_limit 0);
    })

-- what a run reports
pub reports : (p : Program) (m : Machine) (limit : ℕ) (b : List ℕ) (o : Outcome) (b' s ca me : List ℕ) → Reaches (course p limit (length b / 8) m) limit b o b' s ca me →
    result_of limit o s ca me b' ≡ run_bytes p limit b m
unfolding run_bytes
reports p m limit b o b' s ca me r =
    let long' = length_numbers_in b' in
    let l : length (take o.dumped (numbers_in b')) ≡ o.dumped = length-take-le _ _ (omega (arith, r.filled)) in
    rw (← r.is) (rw (l, ← r.written) refl)

-- and nothing of how far it came is left open
pub answers : (p : Program) (m : Machine) (limit : ℕ) (b : List ℕ) (o : Outcome) (b' s ca me : List ℕ) → Reaches (course p limit (length b / 8) m) limit b o b' s ca me →
    o.at ≡ progress_of limit (run_bytes p limit b m)
answers p m limit b o b' s ca me r =
    let l : o.at.left ≡ limit - (limit - o.at.left) = omega (arith, r.fewer) in
    ap (λ (n : ℕ). progress o.at.regs o.at.flags n) l
    ∙ ap (progress_of limit) (reports p m limit b o b' s ca me r)

-- so the promise of a run is kept
pub reported : {image insts : List ℕ} {labels : List Label} {count : ℕ} {m : Machine} {limit : ℕ} {dumps : List ℕ} {o : Outcome} {s ca me b dumps' : List ℕ} →
    Reaches (course (lent_program image (insts_of insts) labels count) limit (length dumps / 8) m) limit dumps o b s ca me → dumps' ≡ b → ExecuteParts image insts labels count m limit dumps o s ca me dumps'
reported r e = rw e (record { answers = answers _ _ _ _ _ _ _ _ _ r; gives = reports _ _ _ _ _ _ _ _ _ r })

-- no more steps are left than the limit has
pub within : {image insts : List ℕ} {labels : List Label} {count : ℕ} {m : Machine} {limit : ℕ} {dumps : List ℕ} {o : Outcome} {s ca me dumps' : List ℕ} →
    ExecuteParts image insts labels count m limit dumps o s ca me dumps' → o.at.left ≤ limit
within e = rw e.answers (omega arith)
