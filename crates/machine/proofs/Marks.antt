-- The marks hold, by computation. Assumes nothing.
use mathlib.Core.Path.{◌≡◌, refl}
use mathlib.Core.Bool.{true}
use Rattle.binary64.specs.Rounding.{count, round_pattern}
use Rattle.binary64.specs.Binary64.{value, signed_whole, unsigned_whole, to_i64, to_u64, of_whole, negative, below_zero}
use Rattle.nan.specs.Cells as nan
use Rattle.integer.specs.Integers.{inc, dec, imul, quotient, idiv}
use Rattle.flag.specs.Flags.{cmp, is_set}
use Rattle.inst.specs.Forms.{form_of, has_none, has_eight, has_one, has_name}
use Rattle.inst.specs.Records.{fits, well_formed}
use Rattle.machine.specs.Change.{with_stack, with_memory, with_flags, moved}
use Rattle.machine.specs.Step.{◌must◌else◌then◌, op_of, number_of, minus, adjust, of_cells, divides, integer_step, rule_of, convert, compare, read, exec, well_state, step}
use Rattle.machine.specs.Marks.{on, answers, marks, all_hold}

pub marks_hold : all_hold marks ≡ true
unfolding on answers marks all_hold with_stack with_memory with_flags moved ◌must◌else◌then◌ op_of number_of minus adjust of_cells divides integer_step rule_of convert compare read exec well_state step form_of has_none has_eight has_one has_name fits well_formed cmp is_set count round_pattern value signed_whole unsigned_whole to_i64 to_u64 of_whole negative below_zero nan.type_of nan.tagged nan.value nan.modulo64 nan.signed nan.as_u64 nan.boxed inc dec imul quotient idiv
marks_hold = refl
