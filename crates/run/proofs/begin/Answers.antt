-- `run::begin` meets its contract. Assumes nothing.
use native.Mathlib.Omega.{arith}
use Rattle.run.proofs.Courses.{halts, spends, ills}
use Rattle.run.proofs.Edges.{too_high, programmed}
use Rattle.run.proofs.begin.Goals as goal

pub returns-then-halted : goal.returns-then-halted
returns-then-halted c = (c.if-halted.true, λ labels room s ca me. halts _ _ _ _ c.if-halted.true)

pub returns-then-from-eq0 : goal.returns-then-from-eq0
returns-then-from-eq0 c = (c.if-halted.false, λ labels room s ca me. spends _ _ _ _ c.if-halted.false c.if-from-eq0.true)

pub returns-then-from-gt-STACK_LIMIT : goal.returns-then-from-gt-STACK_LIMIT
returns-then-from-gt-STACK_LIMIT c =
    (c.if-halted.false, λ labels room s ca me. ills _ _ _ _ c.if-halted.false (omega (arith, c.if-from-eq0.false)) (too_high _ _ labels _ _ c.then-from-gt-STACK_LIMIT.either))

pub returns : goal.returns
returns c =
    rw c.ok_or.ensures.value (programmed _ _ _ _ _ c.if-halted.false (omega (arith, c.if-from-eq0.false)) (c.if-from-gt-STACK_LIMIT.false, c.if-from-gt-CALL_LIMIT.false) c.new.ensures)
