-- Lists without their last, lists of numbers below a bound, lists that differ in some slots at most, and lists filled from the front. Assumes nothing.
use Prim.Native.Nat.{ℕ, zero, suc, ◌≤◌, ◌<◌}
use mathlib.Core.Path.{◌≡◌, refl, ap, ◌∙◌}
use mathlib.Core.List.{List, [], ◌∷◌, ◌++◌, map}
use native.Mathlib.Nat.{zero-add, le_of_suc-le-suc, not-suc-le-zero}
use lib.Dec.{eqb}
use lib.ListN.{length, get_or, set, take, drop, length-set}
use lib.Seq.{take-suc, get_or-set_other, sets, sets-eq}
use borrow.Author.Tests.{eqb-false}
use Rattle.machine.specs.Effects.{drop_last}
use Rattle.machine.specs.Steps.{is_one_of, Except}
use Rattle.machine.specs.Statements.{AllBelow}
use Rattle.inst.proofs.Laws.{or_left, or_right}

pub map_snoc : (l : List ℕ) (x : ℕ) → map suc (l ++ (x ∷ [])) ≡ map suc l ++ (suc x ∷ [])
map_snoc [] x = refl
map_snoc (y ∷ l) x = ap (λ (k : List ℕ). suc y ∷ k) (map_snoc l x)

drop_last_snoc : (l : List ℕ) (x : ℕ) → drop_last (l ++ (x ∷ [])) ≡ l
unfolding drop_last
drop_last_snoc [] x = refl
drop_last_snoc (y ∷ []) x = refl
drop_last_snoc (y ∷ z ∷ l) x = ap (λ (k : List ℕ). y ∷ k) (drop_last_snoc (z ∷ l) x)

pub map-drop_last : (l : List ℕ) → map suc (drop_last l) ≡ drop_last (map suc l)
unfolding drop_last
map-drop_last [] = refl
map-drop_last (x ∷ []) = refl
map-drop_last (x ∷ y ∷ l) = ap (λ (k : List ℕ). suc x ∷ k) (map-drop_last (y ∷ l))

pub length-drop_last : (x : ℕ) (l : List ℕ) → length (drop_last (x ∷ l)) ≡ length l
unfolding drop_last
length-drop_last x [] = refl
length-drop_last x (y ∷ l) = ap suc (length-drop_last y l)

pub drop_last-take : (l : List ℕ) (j : ℕ) → j < length l → drop_last (take (suc j) l) ≡ take j l
drop_last-take l j h = rw (take-suc l j 0 h) (drop_last_snoc (take j l) (get_or l j 0))

pub below_snoc : (n : ℕ) (l : List ℕ) (x : ℕ) → AllBelow n l → x < n → AllBelow n (l ++ (x ∷ []))
unfolding AllBelow
below_snoc n [] x b h = (h, tt)
below_snoc n (y ∷ l) x b h = (b.0, below_snoc n l x b.1 h)

pub below_drop_last : (n : ℕ) (l : List ℕ) → AllBelow n l → AllBelow n (drop_last l)
unfolding AllBelow drop_last
below_drop_last n [] b = tt
below_drop_last n (x ∷ []) b = tt
below_drop_last n (x ∷ y ∷ l) b = (b.0, below_drop_last n (y ∷ l) b.1)

pub below_get_d : (n : ℕ) (l : List ℕ) (i : ℕ) → AllBelow n l → i < length l → get_or l i 0 < n
unfolding AllBelow
below_get_d n [] i b h = absurd (not-suc-le-zero h)
below_get_d n (x ∷ l) zero b h = b.0
below_get_d n (x ∷ l) (suc i) b h = below_get_d n l i b.1 (le_of_suc-le-suc h)

-- lists that differ in these slots at most

pub unchanged : (slots xs : List ℕ) → Except slots xs xs
unchanged slots xs = record { size_is = refl; others_are = λ i h. refl }

module _ (xs : List ℕ) (k v : ℕ) where
  pub stored : (slots : List ℕ) (ys : List ℕ) → Except slots xs ys → Except (k ∷ slots) xs (set ys k v)
  unfolding is_one_of
  stored slots ys e =
      record {
        size_is = length-set ys k v ∙ e.size_is;
        others_are = λ i h. get_or-set_other ys k i v 0 (eqb-false i k (or_left (eqb i k) _ h)) ∙ e.others_are i (or_right (eqb i k) _ h);
      }

  pub one : Except (k ∷ []) xs (set xs k v)
  one = stored [] xs (unchanged [] xs)

-- a list filled from the front, with the rest behind
pub filled : {A : Type 0} (rs old : List A) → length rs ≤ length old → sets old 0 rs ≡ rs ++ drop (length rs) old
filled rs old h = sets-eq rs old 0 (rw zero-add h) ∙ rw zero-add
