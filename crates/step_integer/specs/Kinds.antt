-- The instructions of this crate by their first bytes, the code's kinds as the definition's, and their trap by types, for the contracts.
use Rattle.std.specs.Prelude.{ℕ, cond, ◌&&◌, eqb}
use Rattle.machine.specs.declared.Trap.{Trap}
use Rattle.machine.specs.declared.Trap.TheVariants.{NotBothI64, UnknownType}
use Rattle.machine.specs.Step as definition
use Rattle.step_integer.specs.declared.Integer.{Integer}
use Rattle.step_integer.specs.declared.Integer.TheVariants.{IADD, ISUB, IMUL, IDIV}

-- 5 to 8; any other number is IDIV
abbrev pub integer_of : ℕ → definition.Integer
integer_of op = cond (eqb op 5) definition.IADD (cond (eqb op 6) definition.ISUB (cond (eqb op 7) definition.IMUL definition.IDIV))

-- the same of the code's enum
abbrev pub kind_of : Integer → definition.Integer
kind_of IADD = definition.IADD
kind_of ISUB = definition.ISUB
kind_of IMUL = definition.IMUL
kind_of IDIV = definition.IDIV

-- the trap after the pops of two operands that aren't both I64
unfoldable pub type_trap : ℕ → ℕ → Trap
type_trap a b = cond (definition.type_known a && definition.type_known b) NotBothI64 UnknownType
