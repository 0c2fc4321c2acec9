-- A test of the instructions' definitions, passed or failed, and an integer operation on operands that aren't both I64. Assumes nothing.
use Prim.Native.Nat.{ℕ}
use mathlib.Core.Path.{◌≡◌, refl, ◌∙◌}
use mathlib.Core.Bool.{Bool, true, false, cond, ◌&&◌}
use lib.Dec.{leb}
use Rattle.nan.specs.declared.CellType.TheVariants.{I64}
use Rattle.machine.specs.declared.Machine.{Machine}
use Rattle.machine.specs.Change.{top, popped}
use Rattle.machine.specs.Step.{Stepped, trap, ◌must◌else◌then◌, is, type_known, Integer, integer_step}

module _ (m : Machine) (b : Bool) (t : ℕ) (rest : Stepped) where
  pub passes : b ≡ true → (m must b else t then rest) ≡ rest
  unfolding ◌must◌else◌then◌
  passes h = rw h

  pub fails : b ≡ false → (m must b else t then rest) ≡ trap t m
  unfolding ◌must◌else◌then◌
  fails h = rw h

mistyped : (known both : Bool) (p : Machine) (rest : Stepped) → both ≡ false → (p must known else 31 then p must both else 30 then rest) ≡ trap (cond known 30 31) p
unfolding ◌must◌else◌then◌
mistyped true both p rest h = fails p both 30 rest h
mistyped false both p rest h = refl

pub not_both_i64 : (k : Integer) (m : Machine) → leb 2 m.height ≡ true → (is I64 (top (popped m)) && is I64 (top m)) ≡ false
    → integer_step k m ≡ trap (cond (type_known (top (popped m)) && type_known (top m)) 30 31) (popped m)
unfolding integer_step
not_both_i64 k m h e = passes _ _ _ _ h ∙ mistyped (type_known (top (popped m)) && type_known (top m)) _ _ _ e
