-- `transcript::print_refused` meets its contract. Assumes nothing.
use native.Mathlib.Omega.{arith}
use Rattle.report.proofs.Laws.{refused_line_short}
use Rattle.transcript.proofs.print_refused.Goals as goal

pub refused_line-requires : goal.refused_line-requires
refused_line-requires c = rw c.new-out.ensures (omega (arith, refused_line_short c.args.number))

pub returns : goal.returns
returns c = rw c.len.ensures (rw c.new-out.ensures at c.refused_line.ensures.put)
