-- `integer::inc` meets its contract.
-- Assumes nothing.
use Rattle.std.proofs.Common.{◌+ℤ◌, ap, ◌∙◌, lit<}
use Rattle.nan.specs.Cells.{from_i64}
use Rattle.integer.specs.Integers.{inc}
use Rattle.integer.proofs.Laws.{of_cell, abs_sum}
use Rattle.integer.proofs.inc.Goals as goal

pub overflow_add-get_value : goal.overflow_add-get_value
overflow_add-get_value c = (of_cell ◌+ℤ◌ abs_sum _ _ (lit< tt) c.get_value.ensures).fits

pub returns : goal.returns
unfolding inc
returns c = c.from_i64.ensures ∙ ap from_i64 (of_cell ◌+ℤ◌ abs_sum _ _ (lit< tt) c.get_value.ensures).is
