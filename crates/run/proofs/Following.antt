-- What follows each answer of a step. Assumes nothing.
use Prim.Native.Nat.{ℕ, ◌≤◌, ◌<◌, ◌-◌, ◌+◌, ◌*◌, ◌/◌}
use mathlib.Core.Path.{◌≡◌, refl, ◌∙◌, sym, ap}
use mathlib.Core.Bool.{true, false, ◌&&◌}
use mathlib.Core.List.{List, [], ◌∷◌, ◌++◌}
use native.Mathlib.Omega.{arith}
use lib.Dec.{eqb}
use lib.ListN.{length, take, drop}
use lib.Seq.{sets}
use Rattle.word.specs.Words.{eight_of}
use Rattle.tables.specs.Tables.{numbers_in}
use Rattle.tables.proofs.Bytes.{eight_long}
use Rattle.inst.proofs.Parts.{lent_part}
use borrow.Author.Tests.{eq-eqb, ne_eqb}
use Rattle.machine.specs.declared.Machine.{Machine}
use Rattle.machine.specs.declared.Ending as code
use Rattle.machine.specs.declared.Ending.TheVariants as variant
use Rattle.machine.specs.Ending.{Halted, Number}
use Rattle.machine.specs.declared.Trap.{Trap as Cause}
use Rattle.machine.specs.Traps.{trap_number}
use Rattle.machine.specs.Step.{Stepped, succeeds, outputs, trap, ill}
use Rattle.machine.specs.Run.{Course, ended, after, is_ill, is_dump, taken, turn}
use Rattle.step_core.specs.declared.Registers.{Registers}
use Rattle.step_core.specs.declared.Executed.{Executed}
use Rattle.step_core.specs.declared.Executed.TheVariants.{Next, Compared, Dump, Halt, Trap, Ill}
use Rattle.step_core.specs.Parts.{of_parts, Inside}
use Rattle.quick.proofs.Turns.{before_ill, before_full, before_on}
use Rattle.std.specs.declared.ops.ControlFlow.{ControlFlow}
use Rattle.std.specs.declared.ops.ControlFlow.TheVariants.{Continue, Break}
use Rattle.quick.specs.declared.Reached.{Reached}
use Rattle.run.specs.declared.progress.Outcome.{Outcome}
use Rattle.run.specs.Turns.{more, turned, Fills, Follows}
use Rattle.run.proofs.Courses.{more_next, more_dump, more_ended, more_last, took, cell_written}

-- the answer is d
pub for_answer : {a d : Executed} {at : Reached} {n n' : ℕ} {b b' : List ℕ} {r : ControlFlow Outcome Reached} → a ≡ d → Follows d at n b n' b' r → Follows a at n b n' b' r
for_answer e h = rw e h

-- a step that is taken
module _ (c : Registers) (f : ℕ) (s ca me : List ℕ) (rest : ℕ → Machine → Course) (left room : ℕ) (l : 0 < left) where
  takes : (st : Stepped) → is_ill st ≡ false → (is_dump st && eqb room 0) ≡ false →
      turned (of_parts c f s ca me false) rest left room st ≡ taken (of_parts c f s ca me false) rest room st
  unfolding turn
  takes st i d = ap (turn (of_parts c f s ca me false) rest room st) (before_on (of_parts c f s ca me false) left room st refl l i d)

  succeeded : (m : Machine) → turned (of_parts c f s ca me false) rest left room (succeeds m) ≡ after [] (rest room m)
  unfolding taken is_ill is_dump
  succeeded m = takes (succeeds m) refl refl

  dumped : (x : ℕ) (m : Machine) → (room ≡ 0 → ⊥) → turned (of_parts c f s ca me false) rest left room (outputs x m) ≡ after (x ∷ []) (rest (room - 1) m)
  unfolding taken is_ill is_dump
  dumped x m z = takes (outputs x m) refl (ne_eqb room 0 z)

  trapped : (t : ℕ) (m : Machine) → turned (of_parts c f s ca me false) rest left room (trap t m) ≡ after [] (ended (Number t) m)
  unfolding taken is_ill is_dump
  trapped t m = takes (trap t m) refl refl

  full : (x : ℕ) (m : Machine) → room ≡ 0 → turned (of_parts c f s ca me false) rest left room (outputs x m) ≡ ended (Number 33) (of_parts c f s ca me false)
  unfolding turn is_ill is_dump
  full x m z = ap (turn (of_parts c f s ca me false) rest room (outputs x m)) (before_full (of_parts c f s ca me false) left room (outputs x m) refl l refl (eq-eqb room 0 z))

  is_ill_lem : turned (of_parts c f s ca me false) rest left room ill ≡ ended (Number 34) (of_parts c f s ca me false)
  unfolding turn is_ill
  is_ill_lem = ap (turn (of_parts c f s ca me false) rest room ill) (before_ill (of_parts c f s ca me false) left room ill refl l refl)

-- the rest behind n cells was lent, and came back as ys: with the cell x at its front
pub lent_cell : (b ys : List ℕ) (n x : ℕ) → n < length b / 8 → ys ≡ sets (take (length b - n * 8) (drop (n * 8) b)) 0 (eight_of x)
    → take (n * 8) b ++ (ys ++ drop (length b - n * 8) (drop (n * 8) b)) ≡ sets b (n * 8) (eight_of x)
unfolding eight_of
lent_cell b ys n x h q = lent_part b ys (eight_of x) (n * 8) (length b) (omega arith) (omega arith) q

-- too few bytes for a cell behind n cells, and enough
pub no_slot : (b : List ℕ) (n : ℕ) → n * 8 ≤ length b → length b - n * 8 < 8 → length b / 8 ≤ n
no_slot b n h l = omega arith

pub a_slot : (b : List ℕ) (n : ℕ) → n * 8 ≤ length b → 8 ≤ length b - n * 8 → n < length b / 8
a_slot b n h l = omega arith

-- nothing is dumped
none : (n : ℕ) (b : List ℕ) → n * 8 ≤ length b → Fills n b n b
none n b h = record { filled = h; long = refl; written = λ b₀ e. e }

-- a run's numbers
abbrev pub progress : Registers → ℕ → ℕ → Reached
progress c f left = record { regs = c; left = left; flags = f }

abbrev pub outcome : Reached → ℕ → code.Ending → Outcome
outcome at n e = record { at = at; dumped = n; ending = e }

module _ (c : Registers) (f left n : ℕ) (b : List ℕ) (l : 0 < left) (h : n * 8 ≤ length b) where
  abbrev at : Reached
  at = progress c f left

  pub after_next : (on : Registers) → Inside on → Follows (Next on) at n b n b (Continue (progress on f (left - 1)))
  after_next on i =
      record {
        followed = (
          λ s ca me s' ca' me' rest k u. ap (more k (take n (numbers_in b))) (succeeded c f s ca me rest left (length b / 8 - n) l (of_parts on f s' ca' me' false)) ∙ more_next k (take n (numbers_in b)) _,
          i,
          refl,
          none n b h,
        );
      }

  pub after_compared : (on : Registers) (g : ℕ) → Inside on → Follows (Compared on g) at n b n b (Continue (progress on g (left - 1)))
  after_compared on g i =
      record {
        followed = (
          λ s ca me s' ca' me' rest k u. ap (more k (take n (numbers_in b))) (succeeded c f s ca me rest left (length b / 8 - n) l (of_parts on g s' ca' me' false)) ∙ more_next k (take n (numbers_in b)) _,
          i,
          refl,
          none n b h,
        );
      }

  pub after_dump : n < length b / 8 → (on : Registers) (x : ℕ) → Inside on → Follows (Dump on x) at n b (n + 1) (sets b (n * 8) (eight_of x)) (Continue (progress on f (left - 1)))
  after_dump g on x i =
      let z : length b / 8 - n ≡ 0 → ⊥ = λ e. omega arith in
      let e : length b / 8 - n - 1 ≡ length b / 8 - (n + 1) = omega arith in
      record {
        followed = (
          λ s ca me s' ca' me' rest k u.
              ap (more k (take n (numbers_in b))) (dumped c f s ca me rest left (length b / 8 - n) l x (of_parts on f s' ca' me' false) z)
              ∙ more_dump k x (take n (numbers_in b)) (rest (length b / 8 - n - 1) (of_parts on f s' ca' me' false))
              ∙ ap (λ (r : ℕ). more (k + 1) (take n (numbers_in b) ++ (x ∷ [])) (rest r (of_parts on f s' ca' me' false))) e
              ∙ ap (λ (out : List ℕ). more (k + 1) out (rest (length b / 8 - (n + 1)) (of_parts on f s' ca' me' false))) (sym (took b n x g)),
          i,
          refl,
          record { filled = omega arith; long = eight_long b _ x; written = λ b₀ e. cell_written b b₀ n x g e },
        );
      }

  pub after_full : length b / 8 ≤ n → (on : Registers) (x : ℕ) → Follows (Dump on x) at n b n b (Break (outcome (progress c f left) n variant.BufferFull))
  after_full g on x =
      let z : length b / 8 - n ≡ 0 = omega arith in
      record {
        followed = (
          λ s ca me s' ca' me' rest k q u.
              ap (more k (take n (numbers_in b))) (full c f s ca me rest left (length b / 8 - n) l x (of_parts on f s' ca' me' false) z)
              ∙ more_ended k (left - left) (take n (numbers_in b)) (Number 33) (of_parts c f s ca me false) (omega arith)
              ∙ rw (u.0, u.1, u.2) refl,
          omega arith,
          none n b h,
          refl,
        );
      }

  pub after_halt : (on : Registers) → Follows (Halt on) at n b n b (Break (outcome (progress on f (left - 1)) n variant.Halted))
  after_halt on =
      record {
        followed = (
          λ s ca me s' ca' me' rest k q u.
              ap (more k (take n (numbers_in b))) (succeeded c f s ca me rest left (length b / 8 - n) l (of_parts on f s' ca' me' true))
              ∙ ap (λ (r : Course). more k (take n (numbers_in b)) (after [] r)) (q (length b / 8 - n) (of_parts on f s' ca' me' true) refl)
              ∙ more_last k (left - (left - 1)) (take n (numbers_in b)) Halted (of_parts on f s' ca' me' true) (omega arith),
          omega arith,
          none n b h,
          refl,
        );
      }

  pub after_trap : (on : Registers) (t : Cause) → Follows (Trap on t) at n b n b (Break (outcome (progress on f (left - 1)) n (variant.Trap t)))
  after_trap on t =
      record {
        followed = (
          λ s ca me s' ca' me' rest k q u.
              ap (more k (take n (numbers_in b))) (trapped c f s ca me rest left (length b / 8 - n) l (trap_number t) (of_parts on f s' ca' me' false))
              ∙ more_last k (left - (left - 1)) (take n (numbers_in b)) (Number (trap_number t)) (of_parts on f s' ca' me' false) (omega arith),
          omega arith,
          none n b h,
          refl,
        );
      }

  pub after_ill : Follows Ill at n b n b (Break (outcome (progress c f left) n variant.IllState))
  after_ill =
      record {
        followed = (
          λ s ca me s' ca' me' rest k q u.
              ap (more k (take n (numbers_in b))) (is_ill_lem c f s ca me rest left (length b / 8 - n) l)
              ∙ more_ended k (left - left) (take n (numbers_in b)) (Number 34) (of_parts c f s ca me false) (omega arith)
              ∙ rw (u.0, u.1, u.2) refl,
          omega arith,
          none n b h,
          refl,
        );
      }
