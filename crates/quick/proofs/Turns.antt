-- A course by its first turn. Assumes nothing.
use Prim.Native.Nat.{ℕ, zero, suc, ◌-◌, ◌<◌}
use mathlib.Core.Path.{◌≡◌, refl}
use mathlib.Core.Bool.{true, false, ◌&&◌}
use native.Mathlib.Omega.{arith}
use lib.Dec.{eqb}
use borrow.Author.Tests.{ne_eqb}
use Rattle.machine.specs.declared.Machine.{Machine}
use Rattle.machine.specs.Ending.{Halted, Limit, Number}
use Rattle.machine.specs.Lookup.{Program}
use Rattle.machine.specs.Step.{Stepped, step}
use Rattle.machine.specs.Run.{ends, goes_on, is_ill, is_dump, before, turn, course}

pub course_turn : (p : Program) (left room : ℕ) (m : Machine) → 0 < left →
    course p left room m ≡ turn m (course p (left - 1)) room (step p m) (before m left room (step p m))
unfolding course
course_turn p zero room m l = absurd (omega arith)
course_turn p (suc left) room m l = let f : suc left - 1 ≡ left = omega arith in rw f refl

-- what stands before a step
module _ (m : Machine) (limit room : ℕ) (s : Stepped) where
  pub before_halted : m.halted ≡ true → before m limit room s ≡ ends Halted
  unfolding before
  before_halted h = simp h

  module _ (h : m.halted ≡ false) where
    pub before_limit : limit ≡ 0 → before m limit room s ≡ ends Limit
    unfolding before
    before_limit z = simp (h, z)

    module _ (l : 0 < limit) where
      pub before_ill : is_ill s ≡ true → before m limit room s ≡ ends (Number 34)
      unfolding before
      before_ill i = simp (h, ne_eqb limit 0 (λ e. omega arith), i)

      module _ (i : is_ill s ≡ false) where
        pub before_full : (is_dump s && eqb room 0) ≡ true → before m limit room s ≡ ends (Number 33)
        unfolding before
        before_full d = simp (h, ne_eqb limit 0 (λ e. omega arith), i, d)

        pub before_on : (is_dump s && eqb room 0) ≡ false → before m limit room s ≡ goes_on
        unfolding before
        before_on d = simp (h, ne_eqb limit 0 (λ e. omega arith), i, d)
