-- `known::learn` meets its contract. Assumes nothing.
use native.Mathlib.Omega.{arith}
use Rattle.known.proofs.Keeping.{learns_none, learns_more}
use Rattle.known.proofs.Known.learn.Goals as goal

pub loop-i-init : goal.loop-i-init
loop-i-init c = learns_none

pub loop-i-preserved : goal.loop-i-preserved
loop-i-preserved c = learns_more (omega arith) c.loop-i.invariant _ (omega (arith, c.loop-i-test.true, c.in-Some.ensures)) c.keep_plain.ensures

pub returns : goal.returns
returns c = c.loop-i.invariant
