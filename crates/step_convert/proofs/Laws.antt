-- The code's test for a value below zero, and the definition of the conversions by their trap. Assumes nothing.
use Rattle.std.specs.Prelude.{Result, Ok, Err}
use Prim.Native.Nat.{ℕ, ◌^◌, ◌<◌}
use mathlib.Core.Path.{◌≡◌, refl, sym, ◌∙◌, ap}
use mathlib.Core.Bool.{Bool, true, false, cond, not}
use native.Mathlib.Omega.{arith}
use lib.Dec.{ltb}
use lib.IntN.{ℤ, pos}
use lib.Signed.{mag, lt_z}
use Rattle.nan.specs.Cells as cells
use Rattle.nan.proofs.Laws.{kept, abs_value, mag_abs, below, above}
use Rattle.machine.specs.declared.Machine.{Machine}
use Rattle.machine.specs.declared.Trap.{Trap}
use Rattle.machine.specs.declared.Trap.TheVariants.{WrongType, NegativeConversion, UnknownType}
use Rattle.machine.specs.Traps.{trap_number}
use Rattle.machine.specs.Step.{Stepped, succeeds, trap, ◌must◌else◌then◌, type_known, minus, convert, Conversion, rule_of}
use Rattle.machine.specs.Change.{onward, top, popped, replaced}
use Rattle.step_convert.specs.Kinds.{converted}
use Rattle.machine.proofs.Tests.{passes, fails}

-- ---- the code's test for below zero

module _ (c : ℕ) (z : ℤ) (is : z ≡ cells.value c) where
  small : mag z < 2 ^ 63
  small = rw is (omega (arith, mag_abs (cells.value c), abs_value c))

  pub is_minus : lt_z (kept z) (pos 0) ≡ true → minus (cells.value c) ≡ true
  unfolding minus
  is_minus e = ap minus (sym is ∙ below z small e)

  pub not_minus : lt_z (kept z) (pos 0) ≡ false → minus (cells.value c) ≡ false
  unfolding minus
  not_minus e = ap minus (sym is ∙ above z small e)

-- ---- the tests of a conversion come to its cell, or to its trap

module _ (p : Machine) (on : ℕ → Stepped) where
  pub come_to : Result ℕ Trap → Stepped
  come_to (Ok c) = on c
  come_to (Err t) = trap (trap_number t) p

  by_tests : (kn ta be : Bool) (gives : ℕ) →
      (p must kn else 31 then p must ta else 28 then p must not be else 29 then on gives) ≡ come_to (cond kn (cond ta (cond be (Err NegativeConversion) (Ok gives)) (Err WrongType)) (Err UnknownType))
  unfolding ◌must◌else◌then◌ come_to
  by_tests false ta be g = refl
  by_tests true false be g = refl
  by_tests true true true g = refl
  by_tests true true false g = refl

module _ (k : Conversion) (m : Machine) where
  pub convert_short : ltb 0 m.height ≡ false → convert k m ≡ trap 20 m
  unfolding convert
  convert_short h = fails _ _ _ _ h

  module _ (h : ltb 0 m.height ≡ true) (r : Result ℕ Trap) (e : r ≡ converted k (top m)) where
    onto : ℕ → Stepped
    onto c = succeeds (onward (replaced c m))

    convert_is : convert k m ≡ come_to (popped m) onto r
    unfolding convert converted onto
    convert_is =
        passes _ _ _ _ h ∙ by_tests _ onto (type_known (top m)) (rule_of k (top m)).takes (rule_of k (top m)).below (rule_of k (top m)).gives
        ∙ ap (come_to (popped m) onto) (sym e)

    pub convert_traps : (t : Trap) → r ≡ Err t → convert k m ≡ trap (trap_number t) (popped m)
    unfolding come_to
    convert_traps t z = convert_is ∙ ap (come_to (popped m) onto) z

    pub convert_does : (c : ℕ) → r ≡ Ok c → convert k m ≡ succeeds (onward (replaced c m))
    unfolding come_to onto
    convert_does c z = convert_is ∙ ap (come_to (popped m) onto) z
