-- The definitions of specs/Rounding that count digits and round a fraction are the library's.
use mathlib.Core.Path.{◌≡◌, sym, ap, ◌∙◌}
use Prim.Native.Nat.{ℕ, zero, suc, ◌+◌, ◌-◌, ◌*◌, ◌/◌, ◌%◌, ◌^◌, ◌≤◌, ◌<◌, min, compare, Ordering}
use native.Mathlib.Nat.{le_refl, le_of_eq, le_of_lt, le_antisymm, lt_of_not-le, not-le_of_lt, le_of_suc-le-suc, two-pow-succ}
use native.Mathlib.Omega.{arith}
use borrow.Author.Tests.{lt-ltb, le-ltb}
use lib.Ieee.{size, nearest}
use lib.Ieee.Digits.{size-lt, size-le}
use lib.Ieee.Nearest as Lib
use Rattle.binary64.proofs.Closest.{Cmp, cmp}
use Rattle.binary64.specs.Rounding.{count, closest, round_pattern}

count_lt : (d n : ℕ) → n ≤ d → n < 2 ^ count d n
unfolding count
count_lt zero n h = omega arith
count_lt (suc d) zero h = le_refl 1
count_lt (suc d) (suc n) h = rw two-pow-succ (omega (arith, count_lt d (suc n / 2) (omega arith)))

count_ge : (d n j : ℕ) → n ≤ d → j < count d n → 2 ^ j ≤ n
unfolding count
count_ge zero n j h l = absurd (omega arith)
count_ge (suc d) zero j h l = absurd (omega arith)
count_ge (suc d) (suc n) zero h l = omega arith
count_ge (suc d) (suc n) (suc j) h l = rw two-pow-succ (omega (arith, count_ge d (suc n / 2) j (omega arith) (le_of_suc-le-suc l)))

count_is : (n : ℕ) → count n n ≡ size n
count_is n =
    le_antisymm
    (le_of_suc-le-suc (lt_of_not-le (λ (g : suc (size n) ≤ count n n). not-le_of_lt (size-lt n) (count_ge n n (size n) (le_refl n) g))))
    (size-le n (count n n) (count_lt n n (le_refl n)))

closest_is : (a b : ℕ) → closest a b ≡ Lib.closest a b
closest_is a b = go (compare (a % b * 2) b) (cmp (a % b * 2) b)
  where
    go : (o : Ordering) → Cmp o (a % b * 2) b → closest a b ≡ nearest (a / b) o
    go Ordering.lt h = rw (lt-ltb (a % b * 2) b h)
    go Ordering.eq h = rw (le-ltb (a % b * 2) b (le_of_eq (sym h)), le-ltb b (a % b * 2) (le_of_eq h))
    go Ordering.gt h = rw (le-ltb (a % b * 2) b (le_of_lt h), lt-ltb b (a % b * 2) h)

abbrev lib_pattern : ℕ → ℕ → ℕ → ℕ → ℕ
lib_pattern w top n den = min top ((size (n / den) - suc w) * 2 ^ w + Lib.closest n (den * 2 ^ (size (n / den) - suc w)))

pub pattern_is : (w top n den : ℕ) → round_pattern w top n den ≡ lib_pattern w top n den
unfolding round_pattern
pattern_is w top n den =
    ap (λ (z : ℕ). min top ((z - suc w) * 2 ^ w + closest n (den * 2 ^ (z - suc w)))) (count_is (n / den))
    ∙ ap (λ (z : ℕ). min top ((size (n / den) - suc w) * 2 ^ w + z)) (closest_is n (den * 2 ^ (size (n / den) - suc w)))
