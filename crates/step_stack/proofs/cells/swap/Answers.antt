-- `step_stack::cells::swap` meets its contract. Assumes nothing.
use Rattle.std.proofs.Common.{◌-◌}
use Rattle.std.proofs.lemmas.List.Edits.{swap_is}
use Rattle.machine.specs.Step.{swap, ◌must◌else◌then◌}
use Rattle.machine.specs.Change.{moved, with_stack}
use Rattle.step_core.proofs.Answers.{success, trapped}
use borrow.Author.Tests.{lt-ltb, le-ltb}
use borrow.Author.Rules.{rules}
use Rattle.step_stack.proofs.cells.swap.Goals as goal

pub returns-then-depth-height : goal.returns-then-depth-height
unfolding swap ◌must◌else◌then◌ moved with_stack
returns-then-depth-height c ca me = success c.onward.ensures (λ f. simp (lt-ltb _ _ c.if-depth-height.true, c.swap.ensures.after, ← swap_is c.args.stack.now (c.args.at.regs.height - 1 - c.args.depth) (c.args.at.regs.height - 1) 0 (search rules) (search rules))) (search rules)

pub returns-else-depth-height : goal.returns-else-depth-height
unfolding swap ◌must◌else◌then◌ moved with_stack
returns-else-depth-height c ca me = trapped c.trap.ensures (λ f. simp (le-ltb _ _ c.if-depth-height.false))
