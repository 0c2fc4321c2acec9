-- `integer::dec` meets its contract: to take 1 off is to add -1.
-- Assumes nothing.
use Rattle.std.proofs.Common.{◌+ℤ◌, ap, ◌∙◌, lit<}
use Rattle.nan.specs.Cells.{from_i64}
use Rattle.integer.specs.Integers.{dec}
use Rattle.integer.proofs.Laws.{of_cell, abs_sum}
use Rattle.integer.proofs.dec.Goals as goal

pub overflow_sub-get_value : goal.overflow_sub-get_value
overflow_sub-get_value c = (of_cell ◌+ℤ◌ abs_sum _ _ (lit< tt) c.get_value.ensures).fits

pub returns : goal.returns
unfolding dec
returns c = c.from_i64.ensures ∙ ap from_i64 (of_cell ◌+ℤ◌ abs_sum _ _ (lit< tt) c.get_value.ensures).is
