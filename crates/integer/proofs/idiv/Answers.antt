-- `integer::idiv` meets its contract: the code's quotient of signed numbers is the definitions'.
-- Assumes nothing.
use Rattle.std.proofs.Common.{nat_abs, ap, ◌∙◌, arith}
use lib.Signed.{quot_z}
use Rattle.nan.specs.Cells.{from_i64}
use Rattle.integer.specs.Integers.{idiv}
use Rattle.nan.proofs.Laws.{abs_value}
use Rattle.integer.proofs.Laws.{of_cells, abs_quotient, bits_positive, quotient_is}
use Rattle.integer.proofs.idiv.Goals as goal

pub nonzero_div-get_value : goal.nonzero_div-get_value
nonzero_div-get_value c = (
  bits_positive c.get_value-2.result c.get_value-2.type_inv (omega (arith, ap nat_abs c.get_value-2.ensures, abs_value c.args.b, c.requires)),
  (of_cells quot_z abs_quotient _ _ c.get_value.ensures c.get_value-2.ensures).fits,
)

pub returns : goal.returns
unfolding idiv
returns c =
    c.from_i64.ensures
    ∙ ap from_i64
    ((of_cells quot_z abs_quotient _ _ c.get_value.ensures c.get_value-2.ensures).is ∙ quotient_is _ _)
