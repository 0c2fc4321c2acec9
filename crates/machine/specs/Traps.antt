-- The traps by document 01's numbers.
use Rattle.std.specs.Prelude.{ℕ}
use Rattle.machine.specs.declared.Trap.{Trap}
use Rattle.machine.specs.declared.Trap.TheVariants.{StackUnderflow, StackOverflow, NoOpenCall, CallStackFull, DivisionByZero, AddressPastMemory, NoSuchLabel, NoSuchFunction, WrongType, NegativeConversion, NotBothI64, UnknownType, NoSuchStream}

abbrev pub trap_number : Trap → ℕ
trap_number StackUnderflow = 20
trap_number StackOverflow = 21
trap_number NoOpenCall = 22
trap_number CallStackFull = 23
trap_number DivisionByZero = 24
trap_number AddressPastMemory = 25
trap_number NoSuchLabel = 26
trap_number NoSuchFunction = 27
trap_number WrongType = 28
trap_number NegativeConversion = 29
trap_number NotBothI64 = 30
trap_number UnknownType = 31
trap_number NoSuchStream = 32
