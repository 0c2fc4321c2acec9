-- Laws of digests. Assumes nothing.
use Prim.Native.Nat.{ℕ, zero, suc, ◌+◌, ◌*◌, ◌≤◌, ◌<◌}
use mathlib.Core.Path.{◌≡◌, refl}
use mathlib.Core.Bool.{Bool, true, false, cond}
use mathlib.Core.List.{List, [], ◌∷◌, ◌++◌}
use native.Mathlib.Numerals.{add-one}
use native.Mathlib.Omega.{arith}
use borrow.Author.Tests.{eq-eqb, ne_eqb}
use lib.Dec.{eqb}
use lib.ListN.{length, get_or, drop, drop_of_length-le}
use lib.Seq.{drop-cons}
use Rattle.machine.specs.declared.Machine.{Machine}
use Rattle.machine.specs.Lookup.{Program}
use Rattle.machine.specs.Run.{Result}
use Rattle.std.specs.Int.{from_bool, w32, from_le_bytes}
use Rattle.std.specs.Simd.{first_chunks}
use Rattle.tables.specs.Tables.{records_of}
use Rattle.std.specs.List.{fold}
use Rattle.std.proofs.lemmas.List.Sums.{fold-append}
use Rattle.digests.specs.Digests.{mixed, stepped, digest_after, agreeing, word}

-- a `bool` as a number
pub of_bool : (b : Bool) → from_bool b ≡ cond b 1 0
of_bool true = refl
of_bool false = refl

-- digest i, as four bytes of those recorded and as one of the list
pub chunk_is : (k i : ℕ) (bs : List ℕ) → i < k → k * 4 ≤ length bs → from_le_bytes w32 (get_or (first_chunks 4 k bs) i []) ≡ get_or (records_of word bs) i 0
unfolding records_of word
chunk_is zero i bs h l = absurd (omega arith)
chunk_is (suc k) i [] h l = absurd (omega arith)
chunk_is (suc k) i (a ∷ []) h l = absurd (omega arith)
chunk_is (suc k) i (a ∷ b ∷ []) h l = absurd (omega arith)
chunk_is (suc k) i (a ∷ b ∷ c ∷ []) h l = absurd (omega arith)
chunk_is (suc k) zero (a ∷ b ∷ c ∷ d ∷ bs) h l = omega arith
chunk_is (suc k) (suc i) (a ∷ b ∷ c ∷ d ∷ bs) h l = chunk_is k i bs (omega arith) (omega arith)

-- the parts of a digest
pub parts : (xs ys zs us : List ℕ) (a b c r : ℕ) → a ≡ fold mixed 7 xs → b ≡ fold mixed a ys → c ≡ fold mixed b zs → r ≡ fold mixed c us
    → r ≡ fold mixed 7 (xs ++ ys ++ zs ++ us)
parts xs ys zs us a b c r p q s t = simp fold-append (cc)

-- a loop over digests from the machine m on: the first i agree, and led to the machine m'
pub record Agreeing (p : Program) (m : Machine) (ds : List ℕ) (m' : Machine) (i : ℕ) : Type 0 where
  pub inside : i ≤ length ds
  pub rest : i + agreeing p m' (drop i ds) ≡ agreeing p m ds

module _ (p : Program) (m : Machine) (ds : List ℕ) (m' : Machine) (i : ℕ) (k : Agreeing p m ds m' i) where
  pub agreeing_end : length ds ≤ i → i ≡ agreeing p m ds
  unfolding agreeing
  agreeing_end past = let e = rw (drop_of_length-le ds past) at k.rest in omega arith

  -- one more step, with the digest d where w is recorded
  module _ (r : Result) (d w : ℕ) (below : i < length ds) (is : r ≡ stepped p m') (digest : d ≡ digest_after r) (recorded : w ≡ get_or ds i 0) where
    step_rest : agreeing p m' (drop i ds) ≡ cond (eqb d w) (suc (agreeing p r.machine (drop (i + 1) ds))) 0
    unfolding agreeing
    step_rest = rw (digest, recorded, is, add-one, drop-cons ds i 0)

    pub agreeing_next : d ≡ w → Agreeing p m ds r.machine (i + 1)
    agreeing_next same =
        let e = rw (eq-eqb d w same) at step_rest in
        record { inside = omega arith; rest = let f = k.rest in omega arith }

    pub agreeing_differs : (d ≡ w → ⊥) → i ≡ agreeing p m ds
    agreeing_differs other = let e = rw (ne_eqb d w other) at step_rest in let f = k.rest in omega arith

-- no more steps agree than there are digests
most_next : (b : Bool) (n k : ℕ) → n ≤ k → cond b (suc n) 0 ≤ suc k
most_next true n k h = omega arith
most_next false n k h = omega arith

pub agreeing_most : (p : Program) (m : Machine) (ds : List ℕ) → agreeing p m ds ≤ length ds
unfolding agreeing
agreeing_most p m [] = omega arith
agreeing_most p m (d ∷ ds) = most_next (eqb (digest_after (stepped p m)) d) _ _ (agreeing_most p (stepped p m).machine ds)
