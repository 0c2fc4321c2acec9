-- `nan::get_value` meets its contract.
-- Assumes nothing.
use Rattle.std.proofs.Common.{◌%◌, ◌^◌, pos, rules, le-leb}
use borrow.Author.Tests.{lt-leb}
use Rattle.nan.specs.Cells.{value}
use Rattle.nan.proofs.Laws.{negation, kept_is}
use Rattle.nan.proofs.get_value.Goals as goal

pub returns-then-cell-ge-SIGN : goal.returns-then-cell-ge-SIGN
unfolding value
returns-then-cell-ge-SIGN c = rw (le-leb _ _ c.if-cell-ge-SIGN.true) (negation (c.args.cell % 2 ^ 48) (search rules)).is

pub returns-else-cell-ge-SIGN : goal.returns-else-cell-ge-SIGN
unfolding value
returns-else-cell-ge-SIGN c = rw (lt-leb _ _ c.if-cell-ge-SIGN.false) (kept_is (pos _) (search rules))
