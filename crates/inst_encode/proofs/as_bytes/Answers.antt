-- `inst_encode::as_bytes` meets its contract. Assumes nothing.
use native.Mathlib.Omega.{arith}
use borrow.Author.Rules.{rules}
use Rattle.inst.proofs.Parts.{rest_long, lent_part}
use Rattle.inst_encode.proofs.as_bytes.Goals as goal

pub put_front-requires : goal.put_front-requires
put_front-requires c = record { inst_value = c.requires.inst_value; inst_in_bounds = omega (arith, rest_long c.args.out.now c.args.at, c.requires.inst_in_bounds) }

pub returns-clause-out_after : goal.returns-clause-out_after
returns-clause-out_after c = lent_part c.args.out.now _ _ c.args.at _ c.requires.inst_in_bounds (search rules) c.put_front.ensures.out_after
