-- `step_integer::integer_step` meets its contract. Assumes nothing.
use Prim.Native.Nat.{◌-◌}
use mathlib.Core.Path.{◌≡◌, sym, ◌∙◌}
use mathlib.Core.Bool.{◌&&◌, false}
use lib.ListN.{get_or}
use Rattle.nan.specs.declared.CellType.TheVariants.{I64}
use Rattle.machine.specs.Step.{is}
use Rattle.machine.specs.Change.{moved, with_stack}
use Rattle.step_core.proofs.Answers.{success, trapped}
use Rattle.step_integer.proofs.Laws.{integer_short, integer_types, integer_zero, integer_does}
use borrow.Author.Tests.{le-leb, lt-leb}
use borrow.Author.Rules.{rules}
use Rattle.step_integer.proofs.integer_step.Goals.{then-not-is_i64-via-then-not-is_i64, then-not-is_i64-via-else-not-is_i64+then-not-is_i64-2}
use Rattle.step_integer.proofs.integer_step.Goals as goal

pub returns-then-height-lt2 : goal.returns-then-height-lt2
unfolding moved with_stack
returns-then-height-lt2 c ca me = trapped c.trap.ensures (λ f. sym (integer_short _ _ (lt-leb _ _ c.if-height-lt2.true)))

pub returns-then-not-is_i64 : goal.returns-then-not-is_i64
unfolding moved with_stack
returns-then-not-is_i64 c ca me =
    let stack = c.args.stack.now in
    let last = c.args.at.regs.height - 1 in
    let other : (is I64 (get_or stack (last - 1) 0) && is I64 (get_or stack last 0)) ≡ false =
    elim c.then-not-is_i64.branch [
      | then-not-is_i64-via-then-not-is_i64 w ↦ simp (← c.is_i64.ensures, w.if-not-is_i64.true)
      | then-not-is_i64-via-else-not-is_i64+then-not-is_i64-2 w ↦ simp (← c.is_i64.ensures, w.if-not-is_i64.false, ← w.is_i64-else-not-is_i64.ensures, w.if-not-is_i64-2.true)
    ] in
    trapped c.trap-then-not-is_i64.ensures (λ f. simp c.type_trap.ensures (sym (integer_types _ _ (le-leb _ _ c.if-height-lt2.false) other)))

pub returns-then-not-divides : goal.returns-then-not-divides
unfolding moved with_stack
returns-then-not-divides c ca me =
    trapped c.trap-then-not-divides.ensures (λ f. sym (integer_zero _ _ (le-leb _ _ c.if-height-lt2.false) (simp (← c.is_i64.ensures, c.if-not-is_i64.false, ← c.is_i64-else-not-is_i64.ensures, c.if-not-is_i64-2.false)) (rw c.of-kind.ensures at (sym c.divides.ensures ∙ c.if-not-divides.true))))

pub returns : goal.returns
unfolding moved with_stack
returns c ca me =
    success c.onward.ensures (λ f. simp (c.of_cells.ensures, c.of-kind.ensures) (sym (integer_does _ _ (le-leb _ _ c.if-height-lt2.false) (simp (← c.is_i64.ensures, c.if-not-is_i64.false, ← c.is_i64-else-not-is_i64.ensures, c.if-not-is_i64-2.false)) (rw c.of-kind.ensures at (sym c.divides.ensures ∙ c.if-not-divides.false))))) (search rules)
