-- What the contracts say of a function that is passed.
use Rattle.std.specs.Prelude.{ℕ, ◌≡◌, ◌<◌, ◌^◌}

-- a function of a cell, whose results P gives, computes g
abbrev pub Computes : (ℕ → ℕ) → (ℕ → ℕ → Type 0) → Type 0
Computes g P = (x y : ℕ) → x < 2 ^ 64 → P x y → y ≡ g x
