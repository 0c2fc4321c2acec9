-- A function's values as a list, entry by entry. Assumes nothing.
use mathlib.Core.Path.{◌≡◌, ◌∙◌, ap, sym}
use Prim.Native.Nat.{ℕ, zero, suc, ◌+◌, ◌<◌}
use native.Mathlib.Nat.{add-zero, zero-add, add-suc, suc-add, le_of_suc-le-suc, not-suc-le-zero}
use lib.ListN.{get_or}
use mathlib.Core.List.{List, [], ◌∷◌}

-- f i and the values behind it, n in all
abbrev pub values : {A : Type 0} → (ℕ → A) → ℕ → ℕ → List A
values f i zero = []
values f i (suc n) = f i ∷ values f (suc i) n

module _ {A : Type 0} (d : A) (f : ℕ → A) where
  from : (n i k : ℕ) → k < n → get_or (values f i n) k d ≡ f (i + k)
  from zero i k h = absurd (not-suc-le-zero h)
  from (suc n) i zero h = ap f (sym (add-zero i))
  from (suc n) i (suc k) h = from n (suc i) k (le_of_suc-le-suc h) ∙ ap f (suc-add i k ∙ sym (add-suc i k))

  pub entry : (n k : ℕ) → k < n → get_or (values f 0 n) k d ≡ f k
  entry n k h = from n 0 k h ∙ ap f (zero-add k)
