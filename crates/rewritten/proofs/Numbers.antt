-- A number's bytes and the number of these bytes. Assumes nothing.
use Prim.Native.Nat.{ℕ, ◌+◌, ◌*◌, ◌/◌, ◌%◌, ◌^◌, ◌<◌}
use mathlib.Core.Path.{◌≡◌, refl}
use mathlib.Core.List.{List, [], ◌∷◌}
use native.Mathlib.Omega.{arith}
use lib.ListN.{length}
use Rattle.word.specs.Words.{little_endian, number_of}
use Rattle.inst_decode.specs.Decode.{magnitude}
use Rattle.inst_encode.specs.Encode.{bytes_of}

-- every element is a byte
unfoldable AllBytes : List ℕ → Type 0
AllBytes [] = Unit {0}
AllBytes (b ∷ bs) = (b < 256) × AllBytes bs

bytes_back : (l : List ℕ) → AllBytes l → bytes_of (length l) (little_endian l) ≡ l
unfolding AllBytes bytes_of little_endian
bytes_back [] h = refl
bytes_back (b ∷ bs) h =
    let n = little_endian bs in
    let r : (b + 256 * n) % 256 ≡ b = omega (arith, h.0) in
    let q : (b + 256 * n) / 256 ≡ n = omega (arith, h.0) in
    let z = bytes_back bs h.1 in
    rw (r, q, z)

-- eight bytes
module _ (a b c d e f : ℕ) (la : a < 256) (lb : b < 256) (lc : c < 256) (ld : d < 256) (le : e < 256) (lf : f < 256) where
  pub eight_back : (g h : ℕ) → g < 256 → h < 256 → bytes_of 8 (number_of a b c d e f g h) ≡ a ∷ b ∷ c ∷ d ∷ e ∷ f ∷ g ∷ h ∷ []
  unfolding AllBytes
  eight_back g h lg lh = bytes_back (a ∷ b ∷ c ∷ d ∷ e ∷ f ∷ g ∷ h ∷ []) (la, (lb, (lc, (ld, (le, (lf, (lg, (lh, tt))))))))

  -- without the two highest
  pub low_six : (g h : ℕ) → magnitude (number_of a b c d e f g h) ≡ number_of a b c d e f 0 0
  unfolding little_endian
  low_six g h = omega arith

  pub low_six_small : number_of a b c d e f 0 0 < 2 ^ 48
  unfolding little_endian
  low_six_small = omega arith
