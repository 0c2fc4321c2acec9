-- No two endings of the code are one of the definitions. Assumes nothing.
use Prim.Native.Nat.{◌-◌}
use mathlib.Core.Path.{◌≡◌, refl, sym, ap, ◌∙◌}
use mathlib.Core.List.{[], ◌∷◌, ◌++◌, map}
use lib.ListN.{get_or}
use Rattle.machine.specs.declared.Ending as code
use Rattle.machine.specs.declared.Ending.TheVariants as variant
use Rattle.machine.specs.declared.Trap.TheVariants.{StackUnderflow, StackOverflow, NoOpenCall, CallStackFull, DivisionByZero, AddressPastMemory, NoSuchLabel, NoSuchFunction, WrongType, NegativeConversion, NotBothI64, UnknownType, NoSuchStream}
use Rattle.machine.specs.Ending.{Ending, Halted, Limit, Number, ending_of, EndingsDiffer}

-- the code's endings with a number stand in its order, from 20 on
back : Ending → code.Ending
back Halted = variant.Halted
back Limit = variant.Limit
back (Number n) =
    get_or
    (map variant.Trap (StackUnderflow ∷ StackOverflow ∷ NoOpenCall ∷ CallStackFull ∷ DivisionByZero ∷ AddressPastMemory ∷ NoSuchLabel ∷ NoSuchFunction ∷ WrongType ∷ NegativeConversion ∷ NotBothI64 ∷ UnknownType ∷ NoSuchStream ∷ []) ++ variant.BufferFull ∷ variant.IllState ∷ [])
    (n - 20) variant.Limit

back_is : (e : code.Ending) → back (ending_of e) ≡ e
unfolding back
back_is variant.Halted = refl
back_is variant.Limit = refl
back_is (variant.Trap StackUnderflow) = refl
back_is (variant.Trap StackOverflow) = refl
back_is (variant.Trap NoOpenCall) = refl
back_is (variant.Trap CallStackFull) = refl
back_is (variant.Trap DivisionByZero) = refl
back_is (variant.Trap AddressPastMemory) = refl
back_is (variant.Trap NoSuchLabel) = refl
back_is (variant.Trap NoSuchFunction) = refl
back_is (variant.Trap WrongType) = refl
back_is (variant.Trap NegativeConversion) = refl
back_is (variant.Trap NotBothI64) = refl
back_is (variant.Trap UnknownType) = refl
back_is (variant.Trap NoSuchStream) = refl
back_is variant.BufferFull = refl
back_is variant.IllState = refl

pub endings_differ : EndingsDiffer
endings_differ e e' h = sym (back_is e) ∙ ap back h ∙ back_is e'
