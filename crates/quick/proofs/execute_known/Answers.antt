-- `quick::execute_known` meets its contract. An answer for each arm: `search` doesn't rewrite the first byte under the definition. Assumes nothing.
use mathlib.Core.Path.{refl, sym, ◌∙◌}
use native.Mathlib.Omega.{arith}
use Rattle.machine.specs.Step.{exec, op_of}
use Rattle.integer.specs.Integers as integers
use Rattle.quick.specs.Quick.{step_at, success_of}
use Rattle.quick.proofs.Arms.{goes_on, goes_to, call_acts, quickly, as_is, at, found_at}
use Rattle.quick.proofs.execute_known.Goals as goal

pub operand-requires : goal.operand-requires
operand-requires c = c.requires (λ e. omega (arith, sym c.in-10.is ∙ e))

pub operand-requires-in-11 : goal.operand-requires-in-11
operand-requires-in-11 c = c.requires (λ e. omega (arith, sym c.in-11.is ∙ e))

pub operand-requires-in-1 : goal.operand-requires-in-1
operand-requires-in-1 c = c.requires (λ e. omega (arith, sym c.in-1.is ∙ e))

pub returns-in-0 : goal.returns-in-0
unfolding exec op_of step_at
returns-in-0 c found start len finds = as_is (at found _ start len _ _ 0 c.in-0.is) (quickly _ (goes_on c.onward.ensures c.args.at.heights))

pub returns-in-2 : goal.returns-in-2
unfolding exec op_of step_at
returns-in-2 c found start len finds = as_is (at found _ start len _ _ 2 c.in-2.is) (quickly _ (c.pop.ensures _ _ _))

pub returns-in-3 : goal.returns-in-3
unfolding exec op_of step_at
returns-in-3 c found start len finds = as_is (at found _ start len _ _ 3 c.in-3.is) (quickly _ (c.adjust.ensures integers.inc (λ x y h p. p) _ _))

pub returns-in-4 : goal.returns-in-4
unfolding exec op_of step_at
returns-in-4 c found start len finds = as_is (at found _ start len _ _ 4 c.in-4.is) (quickly _ (c.adjust-in-4.ensures integers.dec (λ x y h p. p) _ _))

pub returns-in-5 : goal.returns-in-5
unfolding exec op_of step_at
returns-in-5 c found start len finds = as_is (at found _ start len _ _ 5 c.in-5.is) (quickly _ (c.integer_step.ensures _ _))

pub returns-in-6 : goal.returns-in-6
unfolding exec op_of step_at
returns-in-6 c found start len finds = as_is (at found _ start len _ _ 6 c.in-6.is) (quickly _ (c.integer_step-in-6.ensures _ _))

pub returns-in-7 : goal.returns-in-7
unfolding exec op_of step_at
returns-in-7 c found start len finds = as_is (at found _ start len _ _ 7 c.in-7.is) (quickly _ (c.integer_step-in-7.ensures _ _))

pub returns-in-8 : goal.returns-in-8
unfolding exec op_of step_at
returns-in-8 c found start len finds = as_is (at found _ start len _ _ 8 c.in-8.is) (quickly _ (c.integer_step-in-8.ensures _ _))

pub returns-in-9 : goal.returns-in-9
unfolding exec op_of step_at
returns-in-9 c found start len finds = as_is (at found _ start len _ _ 9 c.in-9.is) (quickly _ (c.compare.ensures _ _))

pub returns-in-10 : goal.returns-in-10
unfolding exec op_of step_at
returns-in-10 c found start len finds = rw (← c.operand.ensures) (as_is (at found _ start len _ _ 10 c.in-10.is) (quickly _ (c.swap.ensures _ _)))

pub returns-in-11 : goal.returns-in-11
unfolding exec op_of step_at
returns-in-11 c found start len finds = rw (← c.operand-in-11.ensures) (as_is (at found _ start len _ _ 11 c.in-11.is) (quickly _ (c.dup.ensures _ _)))

pub returns-in-12 : goal.returns-in-12
unfolding exec op_of step_at
returns-in-12 c found start len finds = as_is (found_at found _ start len _ _ 12 c.in-12.is _ refl finds) (quickly _ (c.jump_if_known.ensures _ _ _))

pub returns-in-13 : goal.returns-in-13
unfolding exec op_of step_at
returns-in-13 c found start len finds = as_is (found_at found _ start len _ _ 13 c.in-13.is _ refl finds) (quickly _ (c.jump_if_known-in-13.ensures _ _ _))

pub returns-in-14 : goal.returns-in-14
unfolding exec op_of step_at
returns-in-14 c found start len finds = as_is (found_at found _ start len _ _ 14 c.in-14.is _ refl finds) (quickly _ (c.jump_if_known-in-14.ensures _ _ _))

pub returns-in-15 : goal.returns-in-15
unfolding exec op_of step_at
returns-in-15 c found start len finds = as_is (found_at found _ start len _ _ 15 c.in-15.is _ refl finds) (quickly _ (c.jump_if_known-in-15.ensures _ _ _))

pub returns-in-16 : goal.returns-in-16
unfolding exec op_of step_at
returns-in-16 c found start len finds = as_is (found_at found _ start len _ _ 16 c.in-16.is _ refl finds) (quickly _ (c.jump_if_known-in-16.ensures _ _ _))

pub returns-in-17 : goal.returns-in-17
unfolding exec op_of step_at
returns-in-17 c found start len finds = as_is (found_at found _ start len _ _ 17 c.in-17.is _ refl finds) (quickly _ (c.jump_if_known-in-17.ensures _ _ _))

pub returns-in-18 : goal.returns-in-18
unfolding exec op_of step_at
returns-in-18 c found start len finds = as_is (found_at found _ start len _ _ 18 c.in-18.is _ refl finds) (quickly _ (c.jump_if_known-in-18.ensures _ _ _))

pub returns-in-19 : goal.returns-in-19
unfolding exec op_of step_at
returns-in-19 c found start len finds = as_is (found_at found _ start len _ _ 19 c.in-19.is _ refl finds) (quickly _ (c.jump_if_known-in-19.ensures _ _ _))

pub returns-in-20 : goal.returns-in-20
unfolding exec op_of step_at
returns-in-20 c found start len finds = as_is (found_at found _ start len _ _ 20 c.in-20.is c.target.result refl (λ l. rw c.target.ensures (finds l))) (quickly _ (goes_to c.moved.ensures c.args.at.heights))

pub returns-in-21 : goal.returns-in-21
unfolding exec op_of step_at
returns-in-21 c found start len finds = as_is (at found _ start len _ _ 21 c.in-21.is) (quickly _ (goes_on c.onward-in-21.ensures c.args.at.heights))

pub returns-in-22 : goal.returns-in-22
unfolding exec op_of step_at
returns-in-22 c found start len finds = as_is (at found _ start len _ _ 22 c.in-22.is) (quickly _ (c.bot.ensures _ _))

pub returns-in-23 : goal.returns-in-23
unfolding exec op_of step_at
returns-in-23 c found start len finds = as_is (at found _ start len _ _ 23 c.in-23.is) (quickly _ (c.float_step.ensures _ _))

pub returns-in-24 : goal.returns-in-24
unfolding exec op_of step_at
returns-in-24 c found start len finds = as_is (at found _ start len _ _ 24 c.in-24.is) (quickly _ (c.float_step-in-24.ensures _ _))

pub returns-in-25 : goal.returns-in-25
unfolding exec op_of step_at
returns-in-25 c found start len finds = as_is (at found _ start len _ _ 25 c.in-25.is) (quickly _ (c.float_step-in-25.ensures _ _))

pub returns-in-26 : goal.returns-in-26
unfolding exec op_of step_at
returns-in-26 c found start len finds = as_is (at found _ start len _ _ 26 c.in-26.is) (quickly _ (c.float_step-in-26.ensures _ _))

pub returns-in-28 : goal.returns-in-28
unfolding exec op_of step_at
returns-in-28 c found start len finds = as_is (found_at found _ start len _ _ 28 c.in-28.is c.target-in-28.result refl (λ l. rw c.target-in-28.ensures (finds l))) (quickly _ (call_acts c.target-in-28.result _ (c.call.ensures _ _)))

pub returns-in-29 : goal.returns-in-29
unfolding exec op_of step_at
returns-in-29 c found start len finds = as_is (at found _ start len _ _ 29 c.in-29.is) (quickly _ (c.ret.ensures _ _))

pub returns-in-30 : goal.returns-in-30
unfolding exec op_of step_at
returns-in-30 c found start len finds = as_is (at found _ start len _ _ 30 c.in-30.is) (quickly _ (goes_on c.onward-in-30.ensures c.args.at.heights))

pub returns-in-31 : goal.returns-in-31
unfolding exec op_of step_at
returns-in-31 c found start len finds = as_is (at found _ start len _ _ 31 c.in-31.is) (quickly _ (c.convert.ensures _ _))

pub returns-in-32 : goal.returns-in-32
unfolding exec op_of step_at
returns-in-32 c found start len finds = as_is (at found _ start len _ _ 32 c.in-32.is) (quickly _ (c.convert-in-32.ensures _ _))

pub returns-in-33 : goal.returns-in-33
unfolding exec op_of step_at
returns-in-33 c found start len finds = as_is (at found _ start len _ _ 33 c.in-33.is) (quickly _ (c.convert-in-33.ensures _ _))

pub returns-in-34 : goal.returns-in-34
unfolding exec op_of step_at
returns-in-34 c found start len finds = as_is (at found _ start len _ _ 34 c.in-34.is) (quickly _ (c.convert-in-34.ensures _ _))

pub returns-in-35 : goal.returns-in-35
unfolding exec op_of step_at
returns-in-35 c found start len finds = as_is (at found _ start len _ _ 35 c.in-35.is) (quickly _ (c.convert-in-35.ensures _ _))

pub returns-in-36 : goal.returns-in-36
unfolding exec op_of step_at
returns-in-36 c found start len finds = as_is (at found _ start len _ _ 36 c.in-36.is) (quickly _ (c.convert-in-36.ensures _ _))

pub returns-in-37 : goal.returns-in-37
unfolding exec op_of step_at
returns-in-37 c found start len finds = as_is (at found _ start len _ _ 37 c.in-37.is) (quickly _ (goes_on c.onward-in-37.ensures c.args.at.heights))

pub returns-in-38 : goal.returns-in-38
unfolding exec op_of step_at
returns-in-38 c found start len finds = as_is (at found _ start len _ _ 38 c.in-38.is) (quickly _ (c.read.ensures _))

pub returns-in-39 : goal.returns-in-39
unfolding exec op_of step_at
returns-in-39 c found start len finds = as_is (at found _ start len _ _ 39 c.in-39.is) (quickly _ (c.write.ensures _))

pub returns-in-40 : goal.returns-in-40
unfolding exec op_of step_at
returns-in-40 c found start len finds = as_is (at found _ start len _ _ 40 c.in-40.is) (quickly _ (c.read-in-40.ensures _))

pub returns-in-41 : goal.returns-in-41
unfolding exec op_of step_at
returns-in-41 c found start len finds = as_is (at found _ start len _ _ 41 c.in-41.is) (quickly _ (c.write-in-41.ensures _))

pub returns-in-42 : goal.returns-in-42
unfolding exec op_of step_at
returns-in-42 c found start len finds = as_is (at found _ start len _ _ 42 c.in-42.is) (quickly _ (c.read-in-42.ensures _))

pub returns-in-43 : goal.returns-in-43
unfolding exec op_of step_at
returns-in-43 c found start len finds = as_is (at found _ start len _ _ 43 c.in-43.is) (quickly _ (c.write-in-43.ensures _))

pub returns-in-44 : goal.returns-in-44
unfolding exec op_of step_at
returns-in-44 c found start len finds = as_is (at found _ start len _ _ 44 c.in-44.is) (quickly _ (c.read-in-44.ensures _))

pub returns-in-45 : goal.returns-in-45
unfolding exec op_of step_at
returns-in-45 c found start len finds = as_is (at found _ start len _ _ 45 c.in-45.is) (quickly _ (c.write-in-45.ensures _))

pub returns-in-1 : goal.returns-in-1
unfolding exec op_of step_at
returns-in-1 c found start len finds = rw (← c.operand-in-1.ensures) (as_is (at found _ start len _ _ 1 c.in-1.is) (quickly _ (c.push.ensures _ _)))

pub returns-in_default : goal.returns-in_default
unfolding success_of
returns-in_default c found start len finds = record { holds = (refl, refl, refl) }
