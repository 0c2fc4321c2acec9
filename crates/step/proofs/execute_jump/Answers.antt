-- `step::execute_jump` meets its contract. Assumes nothing.
use mathlib.Core.Path.{refl, ◌∙◌}
use Rattle.machine.specs.Step.{exec, op_of}
use Rattle.step.proofs.Dispatch.{jmp_is, jcc_at}
use Rattle.step.proofs.Whole.{acted, as_is}
use Rattle.step.proofs.execute_jump.Goals as goal

pub returns-then-op-eq-CALL : goal.returns-then-op-eq-CALL
unfolding exec op_of
returns-then-op-eq-CALL c v start len s me =
    let a = c.call.ensures s me in
    record { does = a.does _ ∙ rw c.if-op-eq-CALL.true refl; small = a.small; kept = a.kept }

pub returns-in-Some : goal.returns-in-Some
unfolding exec
returns-in-Some c v start len s me =
    as_is (acted _ _ (c.jump_if.ensures s c.args.calls.now me)) (rw (← c.in-Some.ensures, jcc_at c.in-Some.condition) refl)

pub returns-in-None : goal.returns-in-None
unfolding exec op_of
returns-in-None c v start len s me =
    as_is (acted _ _ (c.jump.ensures s c.args.calls.now me)) (rw (jmp_is _ c.requires c.if-op-eq-CALL.false c.in-None.ensures) refl)
