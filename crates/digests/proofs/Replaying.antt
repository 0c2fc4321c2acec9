-- What was recorded as a number and digests, and as one of the two; and that no more steps agree than digests were recorded. Assumes nothing.
use Prim.Native.Nat.{ℕ, ◌≤◌}
use mathlib.Core.Path.{◌≡◌, refl, ◌∙◌}
use mathlib.Core.Bool.{Bool, true, false, ◌&&◌, not}
use mathlib.Core.List.{List, []}
use native.Mathlib.Omega.{arith}
use borrow.Author.Tests.{eqb-true, ne_eqb}
use lib.Dec.{eqb}
use lib.ListN.{length}
use Rattle.std.proofs.Common.{Bor}
use Rattle.machine.specs.declared.Machine.{Machine}
use Rattle.machine.specs.Load.{Load, rejects, accepts}
use Rattle.machine.proofs.Refusals.{Numbered, load_numbered}
use Rattle.tables.specs.Tables.{insts_of, labels_of, program, records_of}
use Rattle.tables.proofs.Numbers.{length_records}
use Rattle.loader.specs.Loading.{Reply, refuses, starts, reply_of, load_of}
use Rattle.digests.specs.declared.Recorded.{Recorded}
use Rattle.digests.specs.declared.Recorded.TheVariants.{Refused, Steps}
use Rattle.digests.specs.declared.Replayed.{Replayed}
use Rattle.digests.specs.Digests.{agreeing, word}
use Rattle.digests.specs.Replays.{digest_bytes, replayed, ReplayImage, replayed_recorded, ReplayRecorded}
use Rattle.digests.proofs.Laws.{agreeing_most}

-- no image is refused with the number 0
abbrev NotZero : Reply → Type 0
NotZero (refuses n) = 1 ≤ n
NotZero (starts m count) = Unit {0}

not_zero : (x : Load) → Numbered x → NotZero (reply_of x)
unfolding reply_of
not_zero (rejects n) h = h
not_zero (accepts l) h = tt

-- the tests, as the code joins them
pub and_true : (b : Bool) → (b && true) ≡ b
and_true false = refl
and_true true = refl

pub and_false : (b : Bool) → (b && false) ≡ false
and_false false = refl
and_false true = refl

not_both : (b : Bool) → ((b && true) && not b) ≡ false
not_both false = refl
not_both true = refl

-- the number n of a refusal is the recorded one only where that isn't 0
numbers : (n number : ℕ) → 1 ≤ n → (b : Bool) → eqb number 0 ≡ b → (eqb n number && not b) ≡ eqb n number
numbers n number h false e = and_true (eqb n number)
numbers n number h true e = rw (eqb-true number 0 e, ne_eqb n 0 (λ z. omega arith))

never_zero : (image insts labels : List ℕ) → NotZero (reply_of (load_of image insts labels))
never_zero image insts labels = not_zero _ (load_numbered image (insts_of insts) (labels_of labels))

module _ (image insts labels : List ℕ) where
  -- an accepted image, by the number and the steps
  pub accepted_is : (number count : ℕ) (ds : List ℕ) {s : ℕ} {m m' : Machine} {b : Bool} → s ≡ agreeing (program image insts labels count) m ds → m ≡ m'
      → b ≡ (eqb number 0 && eqb s (length ds)) → ◌≡◌ {A = Replayed} (record { same = b; steps = s }) (replayed image insts labels number ds (starts m' count))
  unfolding replayed
  accepted_is number count ds e f g = rw (g, e, f)

  -- a refusal's number, with no digests beside it
  number_is : (number : ℕ) (a : Reply) → NotZero a → (s : Replayed) → s ≡ replayed image insts labels number (records_of word []) a
      → ◌≡◌ {A = Replayed} (record { same = s.same && not (eqb number 0); steps = s.steps }) (replayed_recorded image insts labels (Refused number) a)
  unfolding replayed replayed_recorded agreeing records_of
  number_is number (refuses n) h s e = rw (e, numbers n number h (eqb number 0) refl)
  number_is number (starts m count) h s e = rw (e, not_both (eqb number 0))

  -- digests, with 0 beside them
  steps_is : (digests : Bor (List ℕ)) (a : Reply) → NotZero a → replayed image insts labels 0 (records_of word digests.now) a ≡ replayed_recorded image insts labels (Steps digests) a
  unfolding replayed replayed_recorded
  steps_is digests (refuses n) h = rw (ne_eqb n 0 (λ z. omega arith))
  steps_is digests (starts m count) h = refl

  -- no more steps than digests
  replayed_most : (number : ℕ) (ds : List ℕ) (a : Reply) → (replayed image insts labels number ds a).steps ≤ length ds
  unfolding replayed
  replayed_most number ds (refuses n) = omega arith
  replayed_most number ds (starts m count) = agreeing_most (program image insts labels count) m ds

  steps_most : (recorded : Recorded) (a : Reply) → (replayed_recorded image insts labels recorded a).steps ≤ length (digest_bytes recorded)
  unfolding replayed_recorded
  steps_most (Refused number) (refuses n) = omega arith
  steps_most (Refused number) (starts m count) = omega arith
  steps_most (Steps digests) (refuses n) = omega arith
  steps_most (Steps digests) (starts m count) =
      omega (arith, agreeing_most (program image insts labels count) m (records_of word digests.now), length_records word digests.now)

module _ {image insts labels insts' labels' : List ℕ} {s : Replayed} where
  pub of_refused : {number : ℕ} (b : Bool) → b ≡ (s.same && not (eqb number 0)) → ReplayImage image number [] insts labels s insts' labels'
      → ReplayRecorded image (Refused number) insts labels (record { same = b; steps = s.steps }) insts' labels'
  of_refused {number} b e k =
      record { answers = rw e (number_is image insts' labels' number _ (never_zero image insts labels) s k.answers); insts_are = k.insts_are; labels_are = k.labels_are }

  pub of_steps : {digests : Bor (List ℕ)} → ReplayImage image 0 digests.now insts labels s insts' labels' → ReplayRecorded image (Steps digests) insts labels s insts' labels'
  of_steps {digests} k =
      record { answers = k.answers ∙ steps_is image insts' labels' digests _ (never_zero image insts labels); insts_are = k.insts_are; labels_are = k.labels_are }

  pub replay_most : {number : ℕ} {recorded : List ℕ} → ReplayImage image number recorded insts labels s insts' labels' → s.steps ≤ length recorded
  replay_most {number} {recorded} k =
      let m = replayed_most image insts' labels' number (records_of word recorded) (reply_of (load_of image insts labels)) in
      rw k.answers (omega (arith, length_records word recorded))

  -- the same of what was recorded as one value
  pub recorded_most : {recorded : Recorded} → ReplayRecorded image recorded insts labels s insts' labels' → s.steps ≤ length (digest_bytes recorded)
  recorded_most {recorded} k = rw k.answers (steps_most image insts' labels' recorded (reply_of (load_of image insts labels)))
