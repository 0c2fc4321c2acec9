-- What the definition of a load says of its answers. Assumes nothing.
use Prim.Native.Nat.{ℕ, ◌<◌, ◌≤◌}
use mathlib.Core.Path.{◌≡◌, refl, ap}
use mathlib.Core.List.{List}
use native.Mathlib.Omega.{arith}
use lib.Dec.{ltb}
use lib.ListN.{length}
use mathlib.Core.Logic.{◌⊎◌, inl, inr}
use Rattle.std.specs.Prelude.{Result, Ok, Err}
use borrow.Author.Tests.{lt-ltb, le-ltb}
use Rattle.inst.specs.declared.Inst.{Inst}
use Rattle.inst.proofs.Laws.{by_test}
use Rattle.machine.specs.Limits.{image_limit, inst_limit, label_records}
use Rattle.machine.specs.declared.Label.{Label}
use Rattle.machine.specs.Load.{stops, begin, Loaded, Load, rejects, accepts, finished, loads, load, fresh, count_of}
use Rattle.machine.proofs.Loads.{never_both}
use Rattle.tables.specs.Tables.{label_bytes}
use Rattle.loader.specs.declared.refusal.Refusal.{Refusal}
use Rattle.loader.specs.declared.Accepted.{Accepted}
use Rattle.loader.specs.declared.Checked.{Checked}
use Rattle.loader.specs.Refusals.{number_of, numbered}
use Rattle.loader.specs.Loading.{reply_of, fresh_at, means, checked_of, accepted_of, insts_left, labels_left, slots_left, Accepts, LoadInsts}
use Rattle.loader.proofs.Rests.{Rest}

-- 10
module _ (image : List ℕ) (is : List Inst) (ls : List Label) where
  pub few : (length is < inst_limit) ⊎ ((inst_limit ≤ length is) × (length ls < label_records)) → load image is ls ≡ rejects 10
  unfolding load
  few (inl h) = simp (lt-ltb _ _ h)
  few (inr h) = simp (le-ltb _ _ h.0, lt-ltb _ _ h.1)

-- by the code's answer
pub accepted_answers : (k : Checked) (x : Load) → Ok k ≡ checked_of x → Ok k.accepted ≡ accepted_of x
unfolding checked_of accepted_of
accepted_answers k (rejects n) e = cc
accepted_answers k (accepts l) e = let z : k ≡ record { accepted = record { ip = l.ip; count = count_of l }; labels = length l.labels } = cc in rw z

pub refused_answers : (n : ℕ) (x : Load) → Err n ≡ checked_of x → Err n ≡ accepted_of x
unfolding checked_of accepted_of
refused_answers n (rejects m) e = let z : n ≡ m = cc in rw z
refused_answers n (accepts l) e = cc

pub replied : (r : Result Accepted Refusal) (x : Load) → numbered r ≡ accepted_of x → means r ≡ reply_of x
unfolding means reply_of accepted_of fresh_at fresh
replied (Ok a) (rejects n) e = cc
replied (Ok a) (accepts l) e = let z : a ≡ record { ip = l.ip; count = count_of l } = cc in rw z
replied (Err e) (rejects n) h = let z : number_of e ≡ n = cc in rw z
replied (Err e) (accepts l) h = cc

-- the label table in bytes
pub bytes_left : (x : Load) (labels : List ℕ) → slots_left label_bytes x labels ≡ labels_left x labels
unfolding slots_left labels_left
bytes_left (rejects n) labels = refl
bytes_left (accepts l) labels = refl

-- a refusal writes nothing
refused_leaves : (n : ℕ) (x : Load) (insts : List ℕ) → Err n ≡ checked_of x → insts ≡ insts_left x insts
unfolding checked_of insts_left
refused_leaves n (rejects m) insts e = refl
refused_leaves n (accepts l) insts e = cc

pub refused_keeps : {B : Type 0} (n : ℕ) (x : Load) → Err n ≡ checked_of x → (slots : List Label → List B) (labels : List B) → labels ≡ slots_left slots x labels
unfolding checked_of slots_left
refused_keeps n (rejects m) e slots labels = refl
refused_keeps n (accepts l) e slots labels = cc

pub refused_load : (e : Refusal) (x : Load) (insts : List ℕ) → Err (number_of e) ≡ checked_of x → LoadInsts x insts (Err e) insts
refused_load e x insts h = record { answers = h; insts_are = refused_leaves (number_of e) x insts h }

accepted_by : (k : Checked) (image : List ℕ) (x : Load) → loads image ≡ x → Ok k ≡ checked_of x → Accepts image k.accepted.count
unfolding checked_of
accepted_by k image (rejects n) g e = cc
accepted_by k image (accepts l) g e = record { loaded = l; is = g; count_is = let z : k ≡ record { accepted = record { ip = l.ip; count = count_of l }; labels = length l.labels } = cc in ap (λ (x : Checked). x.accepted.count) z }

pub accepted_load : (k : Checked) (image : List ℕ) → Ok k ≡ checked_of (loads image) → Accepts image k.accepted.count
accepted_load k image e = accepted_by k image (loads image) refl e

-- an image that loads to l
module _ (image : List ℕ) (l : Loaded) where
  -- a scan that stops gives its number
  pub not_finished : (n : ℕ) → finished image (stops n) ≡ accepts l → rejects n ≡ accepts l
  unfolding finished
  not_finished n q = q

  -- all that there is to scan gives what it loads to
  pub accepted_rest : loads image ≡ accepts l → Rest image begin (accepts l)
  unfolding loads
  accepted_rest =
      by_test (λ x. x ≡ accepts l → Rest image begin (accepts l)) (ltb image_limit (length image)) _ _ (λ _. never_both 1 l)
      (λ _ q. record { fuel = length image; enough = omega arith; gives = q })
