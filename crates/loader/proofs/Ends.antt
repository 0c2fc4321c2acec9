-- After the last byte: what the code's tests say of the definition. Assumes nothing.
use Prim.Native.Nat.{ℕ, ◌+◌, ◌<◌, ◌≤◌}
use mathlib.Core.Path.{◌≡◌, refl, ap, sym, ◌∙◌}
use mathlib.Core.Bool.{Bool, true, false, cond, ◌||◌}
use mathlib.Core.List.{List, [], ◌∷◌, ◌++◌}
use lib.ListN.{length, length-append}
use Rattle.std.specs.Prelude.{Some, None, Ok}
use borrow.Author.Tests.{lt-ltb, le-ltb}
use Rattle.inst.specs.declared.Inst.{Inst}
use Rattle.machine.specs.Limits.{inst_limit}
use Rattle.machine.specs.Load.{halt, Scan, goes, Entry, no_entry, entry, any_native, last_is_halt, closed, rejects, checked, entered, finished}
use Rattle.loader.specs.declared.reading.Counts.{Counts}
use Rattle.loader.specs.Loading.{checked_of}
use Rattle.loader.specs.Reading.{target_of, entry_of, counts_of}
use Rattle.loader.proofs.Scans.{snoc_native}

-- HALT appended, or not
closed_long : (is : List Inst) → length (closed is) ≡ cond (last_is_halt is) (length is) (length is + 1)
unfolding closed
closed_long is = by_halt (last_is_halt is)
  where
    by_halt : (b : Bool) → length (cond b is (is ++ (halt ∷ []))) ≡ cond b (length is) (length is + 1)
    by_halt true = refl
    by_halt false = length-append is (halt ∷ [])

closed_native : (is : List Inst) → any_native (closed is) ≡ any_native is
unfolding closed
closed_native is = by_halt (last_is_halt is)
  where
    or_false : (b : Bool) → (b || false) ≡ b
    or_false true = refl
    or_false false = refl

    by_halt : (b : Bool) → any_native (cond b is (is ++ (halt ∷ []))) ≡ any_native is
    by_halt true = refl
    by_halt false = snoc_native is halt ∙ or_false (any_native is)

-- by the entry
entered_none : (s : Scan) (e : Entry) → None ≡ target_of e → entered s e ≡ rejects 7
unfolding target_of entered
entered_none s no_entry h = refl
entered_none s (entry t) h = cc

entered_at : (s : Scan) (e : Entry) (ip : ℕ) → Some ip ≡ target_of e → entered s e ≡ checked (record { insts = closed s.insts; labels = s.labels; ip = ip })
unfolding target_of entered
entered_at s no_entry ip h = cc
entered_at s (entry t) ip h = let z : ip ≡ t = cc in rw z

-- of a scan s, of which the code keeps c
module _ (image : List ℕ) (c : Counts) (s : Scan) (e : c ≡ counts_of image s) where
  start_is : c.start ≡ target_of (entry_of image s)
  unfolding counts_of
  start_is = ap (λ (x : Counts). x.start) e

  native_is : c.native ≡ any_native (closed s.insts)
  unfolding counts_of
  native_is = ap (λ (x : Counts). x.native) e ∙ sym (closed_native s.insts)

  long_is : cond c.halt c.insts (c.insts + 1) ≡ length (closed s.insts)
  unfolding counts_of
  long_is = ap (λ (x : Counts). cond x.halt x.insts (x.insts + 1)) e ∙ sym (closed_long s.insts)

  labels_is : c.labels ≡ length s.labels
  unfolding counts_of
  labels_is = ap (λ (x : Counts). x.labels) e

  pub no_entry_lem : None ≡ c.start → rejects 7 ≡ finished image (goes s)
  unfolding finished
  no_entry_lem h = sym (entered_none s _ (h ∙ start_is))

  module _ (ip : ℕ) (h : Some ip ≡ c.start) (count : ℕ) (k : count ≡ cond c.halt c.insts (c.insts + 1)) where
    there : finished image (goes s) ≡ checked (record { insts = closed s.insts; labels = s.labels; ip = ip })
    unfolding finished
    there = entered_at s _ ip (h ∙ start_is)

    count_is : count ≡ length (closed s.insts)
    count_is = k ∙ long_is

    pub too_many : inst_limit < count → rejects 5 ≡ finished image (goes s)
    unfolding checked
    too_many l = rw there (simp (lt-ltb _ _ (rw count_is at l)))

    pub has_native : count ≤ inst_limit → c.native ≡ true → rejects 8 ≡ finished image (goes s)
    unfolding checked
    has_native l n = rw there (simp (le-ltb _ _ (rw count_is at l), sym native_is ∙ n))

    pub accepted_there : count ≤ inst_limit → c.native ≡ false
        → Ok (record { accepted = record { ip = ip; count = count }; labels = c.labels }) ≡ checked_of (finished image (goes s))
    unfolding checked checked_of
    accepted_there l n = rw there (simp (le-ltb _ _ (rw count_is at l), sym native_is ∙ n, count_is, labels_is))
