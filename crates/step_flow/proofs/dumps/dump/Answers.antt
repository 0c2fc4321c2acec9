-- `step_flow::dumps::dump` meets its contract. Assumes nothing.
use mathlib.Core.Path.{refl}
use Rattle.machine.specs.Step.{dump, ◌must◌else◌then◌}
use Rattle.machine.specs.Change as change
use Rattle.step_core.proofs.Answers.{trapped}
use native.Mathlib.Omega.{arith}
use borrow.Author.Tests.{lt-ltb}
use borrow.Author.Rules.{rules}
use Rattle.step_flow.proofs.dumps.dump.Goals as goal

pub returns-then-height-eq0 : goal.returns-then-height-eq0
unfolding dump ◌must◌else◌then◌ change.moved
returns-then-height-eq0 c ca me = trapped c.trap.ensures (λ f. simp c.if-height-eq0.true)

pub returns-then-not-is_stream : goal.returns-then-not-is_stream
unfolding dump ◌must◌else◌then◌ change.moved
returns-then-not-is_stream c ca me = trapped c.trap-then-not-is_stream.ensures (λ f. simp (lt-ltb 0 c.args.at.regs.height (omega (arith, c.if-height-eq0.false)), ← c.is_stream.ensures, c.if-not-is_stream.true))

pub returns : goal.returns
unfolding dump ◌must◌else◌then◌ change.moved
returns c ca me = rw c.next.ensures (record { does = λ f. simp (lt-ltb 0 c.args.at.regs.height (omega (arith, c.if-height-eq0.false)), ← c.is_stream.ensures, c.if-not-is_stream.false); small = search rules; kept = (refl, refl, refl) })
