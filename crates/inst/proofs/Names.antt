-- Laws of names that are compared or tested byte by byte. Assumes nothing.
use Prim.Native.Nat.{ℕ, zero, suc, ◌<◌, ◌≤◌}
use mathlib.Core.Path.{◌≡◌, refl, sym}
use mathlib.Core.Bool.{Bool, true, false, and-false}
use mathlib.Core.List.{List, [], ◌∷◌}
use native.Mathlib.Omega.{arith}
use lib.ListN.{get_or}
use borrow.Author.Tests.{lt-ltb, le-ltb}
use Rattle.std.specs.Prelude.{MatchBool, IsAscii, nat_eq}
use Rattle.std.specs.Str.{IsNotAscii}
use lib.Pointwise.{pointwise}
use Rattle.inst.specs.Records.{name_ok, same}

below : (s : List ℕ) → ((i : ℕ) → get_or s i 0 < 128) → name_ok s ≡ true
unfolding name_ok
below [] h = refl
below (b ∷ s) h = rw (lt-ltb b 128 (h 0), below s (λ i. h (suc i)))

above : (s : List ℕ) (i : ℕ) → 128 ≤ get_or s i 0 → name_ok s ≡ false
unfolding name_ok
above [] i h = absurd (omega arith)
above (b ∷ s) zero h = rw (le-ltb b 128 h)
above (b ∷ s) (suc i) h = rw (above s i h, and-false)

-- the library's test is the check of a name
pub ascii_is : (s : List ℕ) (b : Bool) → MatchBool b (IsAscii s) (IsNotAscii s) → b ≡ name_ok s
ascii_is s true h = sym (below s h)
ascii_is s false h = sym (above s h.0 h.1)

-- and its equality of slices that of names
pub equal_is : (a b : List ℕ) → pointwise nat_eq a b ≡ same a b
unfolding same
equal_is [] [] = refl
equal_is [] (y ∷ b) = refl
equal_is (x ∷ a) [] = refl
equal_is (x ∷ a) (y ∷ b) = rw (equal_is a b)
