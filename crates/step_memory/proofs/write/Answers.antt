-- `step_memory::write` meets its contract. Assumes nothing.
use Rattle.machine.specs.Step.{write, ◌must◌else◌then◌}
use Rattle.machine.specs.Change.{moved, with_stack, with_memory}
use Rattle.step_core.proofs.Answers.{success, trapped}
use borrow.Author.Tests.{lt-ltb, le-ltb, le-leb, lt-leb}
use borrow.Author.Rules.{rules}
use Rattle.step_memory.proofs.write.Goals as goal

pub returns-then-height-lt2 : goal.returns-then-height-lt2
unfolding write ◌must◌else◌then◌ moved with_stack with_memory
returns-then-height-lt2 c ca = trapped c.trap.ensures (λ f. simp (lt-leb _ _ c.if-height-lt2.true))

pub returns-then-address-ge-MEMORY_SIZE : goal.returns-then-address-ge-MEMORY_SIZE
unfolding write ◌must◌else◌then◌ moved with_stack with_memory
returns-then-address-ge-MEMORY_SIZE c ca = trapped c.trap-then-address-ge-MEMORY_SIZE.ensures (λ f. simp (le-leb _ _ c.if-height-lt2.false, ← c.as_u64-address.ensures, le-ltb _ _ c.if-address-ge-MEMORY_SIZE.true))

pub returns : goal.returns
unfolding write ◌must◌else◌then◌ moved with_stack with_memory
returns c ca = success c.onward.ensures (λ f. simp (le-leb _ _ c.if-height-lt2.false, ← c.as_u64-address.ensures, ← c.as_u64-value.ensures, lt-ltb _ _ c.if-address-ge-MEMORY_SIZE.false)) (search rules)
