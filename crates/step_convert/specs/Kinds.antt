-- The instructions of this crate by their first bytes, the code's kinds as the definition's, and what a conversion comes to behind the pop, for the contracts.
use Rattle.std.specs.Prelude.{ℕ, cond, eqb, Result, Ok, Err}
use Rattle.machine.specs.declared.Trap.{Trap}
use Rattle.machine.specs.declared.Trap.TheVariants.{WrongType, NegativeConversion, UnknownType}
use Rattle.machine.specs.Step as definition
use Rattle.step_convert.specs.declared.Conversion.{Conversion}
use Rattle.step_convert.specs.declared.Conversion.TheVariants.{F2I, F2U, I2F, I2U, U2I, U2F}

-- 31 to 36; any other number is U2F
abbrev pub conversion_of : ℕ → definition.Conversion
conversion_of op =
    cond (eqb op 31) definition.F2I (cond (eqb op 32) definition.F2U (cond (eqb op 33) definition.I2F (cond (eqb op 34) definition.I2U (cond (eqb op 35) definition.U2I definition.U2F))))

-- the same of the code's enum
abbrev pub kind_of : Conversion → definition.Conversion
kind_of F2I = definition.F2I
kind_of F2U = definition.F2U
kind_of I2F = definition.I2F
kind_of I2U = definition.I2U
kind_of U2I = definition.U2I
kind_of U2F = definition.U2F

-- the cell that the cell c gives, or the trap
unfoldable pub converted : definition.Conversion → ℕ → Result ℕ Trap
converted k c =
    let r = definition.rule_of k c in
    cond (definition.type_known c) (cond r.takes (cond r.below (Err NegativeConversion) (Ok r.gives)) (Err WrongType)) (Err UnknownType)
