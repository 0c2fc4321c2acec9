-- `step_memory::read` meets its contract. Assumes nothing.
use Rattle.machine.specs.Step.{read, ◌must◌else◌then◌}
use Rattle.machine.specs.Change.{moved, with_stack}
use Rattle.step_core.proofs.Answers.{success, trapped}
use native.Mathlib.Omega.{arith}
use borrow.Author.Tests.{lt-ltb, le-ltb}
use borrow.Author.Rules.{rules}
use Rattle.step_memory.proofs.read.Goals as goal

pub returns-then-height-eq0 : goal.returns-then-height-eq0
unfolding read ◌must◌else◌then◌ moved with_stack
returns-then-height-eq0 c ca = trapped c.trap.ensures (λ f. simp c.if-height-eq0.true)

pub returns-in_default : goal.returns-in_default
unfolding read ◌must◌else◌then◌ moved with_stack
returns-in_default c ca =
    trapped c.trap-in_default.ensures (λ f. simp (lt-ltb 0 c.args.at.regs.height (omega (arith, c.if-height-eq0.false)), ← c.as_u64.ensures, le-ltb _ _ (rw c.told-memory at c.in_default.ensures.lookup.3)))

pub returns : goal.returns
unfolding read ◌must◌else◌then◌ moved with_stack
returns c ca =
    let there = c.in-Some.ensures.lookup.3 in
    success c.onward.ensures (λ f. simp (lt-ltb 0 c.args.at.regs.height (omega (arith, c.if-height-eq0.false)), ← c.as_u64.ensures, lt-ltb _ _ (rw c.told-memory at there.0), c.from_u64.ensures, c.from.ensures, there.1 0)) (search rules)
