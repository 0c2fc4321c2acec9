-- Case distinctions by a test, and what a height loses. Assumes nothing.
use Prim.Native.Nat.{ℕ, zero, suc, ◌-◌, ◌≤◌}
use mathlib.Core.Path.{◌≡◌, refl, sym}
use mathlib.Core.Bool.{Bool, true, false, ◌&&◌}
use native.Mathlib.Numerals.{unary_clauses}
use lib.IntN.{pos, neg_ℤ, ◌+ℤ◌, +ℤ_idr}
use borrow.Author.Tests.{le-ltb}
use Rattle.machine.specs.declared.Machine.{Machine}
use Rattle.machine.specs.Step.{Stepped, trap, ◌must◌else◌then◌}

-- a need of an instruction: it fails and the trap is left, or it holds and the rest follows
pub must_case : (P : Stepped → Type 0) (m : Machine) (b : Bool) (t : ℕ) (rest : Stepped)
    → P (trap t m) → (b ≡ true → P rest) → P (m must b else t then rest)
unfolding ◌must◌else◌then◌
must_case P m true t rest fails holds = holds refl
must_case P m false t rest fails holds = fails

-- h cells as they were, and n of them less
pub level : (h : ℕ) → pos h ≡ pos h +ℤ pos 0
level h = sym (+ℤ_idr (pos h))

pub less_by : (h n : ℕ) → n ≤ h → pos (h - n) ≡ pos h +ℤ neg_ℤ (pos n)
less_by h zero l = simp unary_clauses
less_by h (suc n) l = rw (le-ltb h (suc n) l)

pub both : (a b : Bool) → a ≡ true → b ≡ true → (a && b) ≡ true
both a b p q = rw (p, q)
