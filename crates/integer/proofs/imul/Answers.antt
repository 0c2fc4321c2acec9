-- `integer::imul` meets its contract: the words multiply as the values do, modulo 2 ^ 64.
-- Assumes nothing.
use Rattle.std.proofs.Common.{ap, ◌∙◌}
use Rattle.nan.specs.Cells.{as_u64, from_i64, signed}
use Rattle.integer.specs.Integers.{imul}
use Rattle.nan.proofs.Laws.{kept_is}
use Rattle.integer.proofs.Words.{product}
use Rattle.integer.proofs.imul.Goals as goal

pub returns : goal.returns
unfolding imul as_u64
returns c =
    c.from_i64.ensures
    ∙ ap from_i64
    (kept_is _ c.signed.type_inv
    ∙ c.signed.ensures
    ∙ ap signed (product _ _ c.as_u64.ensures c.as_u64-2.ensures))
