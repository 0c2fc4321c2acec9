-- `step_convert::Conversion::convert` meets its contract. Assumes nothing.
use mathlib.Core.Path.{sym}
use native.Mathlib.Omega.{arith}
use Rattle.machine.specs.Change.{moved, with_stack}
use Rattle.step_core.proofs.Answers.{success, trapped}
use Rattle.step_convert.proofs.Laws.{convert_short, convert_traps, convert_does}
use borrow.Author.Tests.{lt-ltb, le-ltb}
use borrow.Author.Rules.{rules}
use Rattle.step_convert.proofs.Conversion.convert.Goals as goal

pub returns-then-height-eq0 : goal.returns-then-height-eq0
unfolding moved with_stack
returns-then-height-eq0 c ca me = trapped c.trap.ensures (λ f. sym (convert_short _ _ (le-ltb _ _ (omega (arith, c.if-height-eq0.true)))))

pub returns-in-Ok : goal.returns-in-Ok
unfolding moved with_stack
returns-in-Ok c ca me = success c.onward.ensures (λ f. sym (convert_does _ _ (lt-ltb _ _ (omega (arith, c.if-height-eq0.false))) _ c.of_cell.ensures _ c.in-Ok.is)) (search rules)

pub returns-in-Err : goal.returns-in-Err
unfolding moved with_stack
returns-in-Err c ca me = trapped c.trap-in-Err.ensures (λ f. sym (convert_traps _ _ (lt-ltb _ _ (omega (arith, c.if-height-eq0.false))) _ c.of_cell.ensures _ c.in-Err.is))
