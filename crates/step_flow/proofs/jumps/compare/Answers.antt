-- `step_flow::jumps::compare` meets its contract. Assumes nothing.
use Rattle.machine.specs.Step.{compare, ◌must◌else◌then◌}
use Rattle.machine.specs.Change.{moved, with_stack, with_flags}
use Rattle.step_core.proofs.Answers.{trapped}
use borrow.Author.Tests.{le-leb, lt-leb}
use borrow.Author.Rules.{rules}
use Rattle.step_flow.proofs.jumps.compare.Goals as goal

pub returns-then-height-lt2 : goal.returns-then-height-lt2
unfolding compare ◌must◌else◌then◌ moved with_stack with_flags
returns-then-height-lt2 c ca me = trapped c.trap.ensures (λ f. simp (lt-leb _ _ c.if-height-lt2.true))

pub returns : goal.returns
unfolding compare ◌must◌else◌then◌ moved with_stack with_flags
returns c ca me = rw c.next.ensures (record { does = λ f. simp (le-leb _ _ c.if-height-lt2.false, ← c.as_u64-b.ensures, ← c.as_u64-a.ensures, ← c.cmp.ensures); small = search rules; kept = tt })
