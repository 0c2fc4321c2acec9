-- Document 02, request a, computed: steps on a plain NaN and on what lies just beside it, in the form of the marks. Assumes nothing.
use mathlib.Core.Path.{◌≡◌, refl}
use mathlib.Core.Bool.{true}
use mathlib.Core.List.{List, [], ◌∷◌}
use Rattle.binary64.specs.Binary64.{value, quotient, quotient_bits, signed_whole, unsigned_whole, to_i64, to_u64, negative, below_zero}
use Rattle.nan.specs.Cells as nan
use Rattle.integer.specs.Integers.{inc, dec}
use Rattle.flag.specs.Flags.{cmp, is_set}
use Rattle.inst.specs.Forms.{form_of, has_none, has_eight, has_one, has_name}
use Rattle.inst.specs.Records.{fits, well_formed}
use Rattle.machine.specs.Change.{with_stack, with_memory, with_flags, moved}
use Rattle.machine.specs.Step.{◌must◌else◌then◌, op_of, number_of, adjust, divides, integer_step, of_floats, float_step, rule_of, convert, compare, read, write, exec, well_state, step}
use Rattle.machine.specs.Marks.{on, answers, Mark, mark, cell, traps, clear, all_hold}

steps : List Mark
steps =
    -- FDIV of 0.0 and 0.0; F2I and F2U of what it gives
    mark 26 (0 ∷ 0 ∷ []) (cell 0x7FF8000000000000)
    ∷ mark 31 (0x7FF8000000000000 ∷ []) (cell 0x7FF2000000000000)
    ∷ mark 32 (0x7FF8000000000000 ∷ []) (cell 0x7FF3000000000000)
    -- with the sign set and with a payload
    ∷ mark 31 (0xFFF8FFFFFFFFFFFF ∷ []) (cell 0x7FF2000000000000)
    ∷ mark 32 (0xFFF8000000000005 ∷ []) (cell 0x7FF3000000000000)
    -- I2F, I2U, U2I, U2F
    ∷ mark 33 (0x7FF8000000000005 ∷ []) (traps 28)
    ∷ mark 34 (0xFFF8000000000005 ∷ []) (traps 28)
    ∷ mark 35 (0x7FF8000000000005 ∷ []) (traps 28)
    ∷ mark 36 (0xFFF8000000000005 ∷ []) (traps 28)
    -- integer arithmetic: 30, 31 where the other is unknown; IDIV by it is 30, before 24
    ∷ mark 5 (0x7FF2000000000001 ∷ 0x7FF8000000000000 ∷ []) (traps 30)
    ∷ mark 6 (0xFFF8000000000000 ∷ 0x7FF2000000000001 ∷ []) (traps 30)
    ∷ mark 7 (0x7FF8000000000000 ∷ 0x7FF8000000000000 ∷ []) (traps 30)
    ∷ mark 5 (0x7FF9000000000000 ∷ 0x7FF8000000000000 ∷ []) (traps 31)
    ∷ mark 5 (0x7FF8000000000000 ∷ 0x7FF5000000000000 ∷ []) (traps 31)
    ∷ mark 8 (0x7FF2000000000001 ∷ 0x7FF8000000000000 ∷ []) (traps 30)
    ∷ mark 8 (0x7FF2000000000001 ∷ 0x7FF2000000000000 ∷ []) (traps 24)
    -- INC, DEC and CMP take its value, READ and WRITE its address, as of any cell
    ∷ mark 3 (0x7FF8000000000005 ∷ []) (cell 0x7FF2000000000006)
    ∷ mark 4 (0xFFF8000000000005 ∷ []) (cell 0xFFF2000000000006)
    ∷ mark 9 (0x7FF8000000000005 ∷ 0x7FF2000000000005 ∷ []) (clear 17)
    ∷ mark 38 (0x7FF80000000003FF ∷ []) (cell 0x7FF3000000000007)
    ∷ mark 39 (0x7FF2000000000009 ∷ 0x7FF80000000003FF ∷ 0xFFF8000000000005 ∷ []) (cell 0x7FF2000000000009)
    ∷ mark 39 (0x7FF2000000000009 ∷ 0x7FF8000000000400 ∷ 0xFFF8000000000005 ∷ []) (traps 25)
    -- 0, 7 and 9 are unknown; with 0 and nothing below it is no NaN
    ∷ mark 31 (0x7FF0000000000001 ∷ []) (traps 31)
    ∷ mark 31 (0xFFF7FFFFFFFFFFFF ∷ []) (traps 31)
    ∷ mark 32 (0xFFF9000000000000 ∷ []) (traps 31)
    ∷ mark 32 (0xFFF0000000000000 ∷ []) (traps 29)
    ∷ []

computed : all_hold steps ≡ true
unfolding steps on answers all_hold with_stack with_memory with_flags moved ◌must◌else◌then◌ op_of number_of adjust divides integer_step of_floats float_step rule_of convert compare read write exec well_state step form_of has_none has_eight has_one has_name fits well_formed cmp is_set value quotient quotient_bits signed_whole unsigned_whole to_i64 to_u64 negative below_zero nan.type_of nan.tagged nan.value nan.modulo64 nan.signed nan.as_u64 nan.boxed inc dec
computed = refl
