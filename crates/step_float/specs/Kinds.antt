-- The instructions of this crate by their first bytes, and the code's kinds as the definition's.
use Rattle.std.specs.Prelude.{ℕ, cond, eqb}
use Rattle.machine.specs.Step as definition
use Rattle.step_float.specs.declared.Float.{Float}
use Rattle.step_float.specs.declared.Float.TheVariants.{FADD, FSUB, FMUL, FDIV}

-- 23 to 26; any other number is FDIV
abbrev pub float_of : ℕ → definition.Float
float_of op = cond (eqb op 23) definition.FADD (cond (eqb op 24) definition.FSUB (cond (eqb op 25) definition.FMUL definition.FDIV))

-- the same of the code's enum
abbrev pub kind_of : Float → definition.Float
kind_of FADD = definition.FADD
kind_of FSUB = definition.FSUB
kind_of FMUL = definition.FMUL
kind_of FDIV = definition.FDIV
