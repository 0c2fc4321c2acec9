-- `integer::isub` meets its contract.
-- Assumes nothing.
use Rattle.std.proofs.Common.{◌-ℤ◌, ap, ◌∙◌}
use Rattle.nan.specs.Cells.{from_i64}
use Rattle.integer.specs.Integers.{isub}
use Rattle.integer.proofs.Laws.{of_cells, abs_difference}
use Rattle.integer.proofs.isub.Goals as goal

pub overflow_sub-get_value : goal.overflow_sub-get_value
overflow_sub-get_value c = (of_cells ◌-ℤ◌ abs_difference _ _ c.get_value.ensures c.get_value-2.ensures).fits

pub returns : goal.returns
unfolding isub
returns c =
    c.from_i64.ensures
    ∙ ap from_i64 (of_cells ◌-ℤ◌ abs_difference _ _ c.get_value.ensures c.get_value-2.ensures).is
