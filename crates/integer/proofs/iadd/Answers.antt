-- `integer::iadd` meets its contract.
-- Assumes nothing.
use Rattle.std.proofs.Common.{◌+ℤ◌, ap, ◌∙◌}
use Rattle.nan.specs.Cells.{from_i64}
use Rattle.integer.specs.Integers.{iadd}
use Rattle.integer.proofs.Laws.{of_cells, abs_sum}
use Rattle.integer.proofs.iadd.Goals as goal

pub overflow_add-get_value : goal.overflow_add-get_value
overflow_add-get_value c = (of_cells ◌+ℤ◌ abs_sum _ _ c.get_value.ensures c.get_value-2.ensures).fits

pub returns : goal.returns
unfolding iadd
returns c =
    c.from_i64.ensures
    ∙ ap from_i64 (of_cells ◌+ℤ◌ abs_sum _ _ c.get_value.ensures c.get_value-2.ensures).is
