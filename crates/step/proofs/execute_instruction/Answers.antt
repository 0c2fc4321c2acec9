-- `step::execute_instruction` meets its contract. An answer for each arm: `search` doesn't rewrite the first byte under the definition. Assumes nothing.
use mathlib.Core.Path.{refl}
use native.Mathlib.Omega.{arith}
use Rattle.integer.specs.Integers as integers
use Rattle.machine.specs.Step.{exec, op_of}
use Rattle.machine.specs.Change as change
use Rattle.step_core.proofs.Answers.{success}
use Rattle.step.proofs.Dispatch.{no_jump, nop_at, dump_at, read_at, write_at}
use borrow.Author.Rules.{rules}
use Rattle.step.proofs.execute_instruction.Goals as goal

pub returns-in-1 : goal.returns-in-1
unfolding exec op_of
returns-in-1 c found start len = rw c.in-1.is (c.push.ensures _ _)

pub returns-in-2 : goal.returns-in-2
unfolding exec op_of
returns-in-2 c found start len = rw c.in-2.is (c.pop.ensures _ _ _)

pub returns-in-3 : goal.returns-in-3
unfolding exec op_of
returns-in-3 c found start len = rw c.in-3.is (c.adjust.ensures integers.inc (λ x y h p. p) _ _)

pub returns-in-4 : goal.returns-in-4
unfolding exec op_of
returns-in-4 c found start len = rw c.in-4.is (c.adjust-in-4.ensures integers.dec (λ x y h p. p) _ _)

pub returns-in-9 : goal.returns-in-9
unfolding exec op_of
returns-in-9 c found start len = rw c.in-9.is (c.compare.ensures _ _)

pub returns-in-10 : goal.returns-in-10
unfolding exec op_of
returns-in-10 c found start len = rw c.in-10.is (c.swap.ensures _ _)

pub returns-in-11 : goal.returns-in-11
unfolding exec op_of
returns-in-11 c found start len = rw c.in-11.is (c.dup.ensures _ _)

pub returns-in-22 : goal.returns-in-22
unfolding exec op_of
returns-in-22 c found start len = rw c.in-22.is (c.bot.ensures _ _)

pub returns-in-27 : goal.returns-in-27
unfolding exec
returns-in-27 c found start len = rw (dump_at _ c.in-27.is) (c.dump.ensures _ _)

pub returns-in-29 : goal.returns-in-29
unfolding exec op_of
returns-in-29 c found start len = rw c.in-29.is (c.ret.ensures _ _)

pub returns-in-38 : goal.returns-in-38
unfolding exec
returns-in-38 c found start len = rw (read_at _ c.in-38.is) (c.read.ensures _)

pub returns-in-39 : goal.returns-in-39
unfolding exec
returns-in-39 c found start len = rw (write_at _ c.in-39.is) (c.write.ensures _)

pub returns-in-69 : goal.returns-in-69
unfolding exec op_of change.stopped
returns-in-69 c found start len = record { does = λ f. rw c.in-69.is refl; small = tt; kept = (refl, refl, refl) }

pub returns-in-5 : goal.returns-in-5
unfolding exec op_of
returns-in-5 c found start len = rw c.in-5.is (c.integer_step.ensures _ _)

pub returns-in-6 : goal.returns-in-6
unfolding exec op_of
returns-in-6 c found start len = rw c.in-6.is (c.integer_step-in-6.ensures _ _)

pub returns-in-7 : goal.returns-in-7
unfolding exec op_of
returns-in-7 c found start len = rw c.in-7.is (c.integer_step-in-7.ensures _ _)

pub returns-in-8 : goal.returns-in-8
unfolding exec op_of
returns-in-8 c found start len = rw c.in-8.is (c.integer_step-in-8.ensures _ _)

pub returns-in-23 : goal.returns-in-23
unfolding exec op_of
returns-in-23 c found start len = rw c.in-23.is (c.float_step.ensures _ _)

pub returns-in-24 : goal.returns-in-24
unfolding exec op_of
returns-in-24 c found start len = rw c.in-24.is (c.float_step-in-24.ensures _ _)

pub returns-in-25 : goal.returns-in-25
unfolding exec op_of
returns-in-25 c found start len = rw c.in-25.is (c.float_step-in-25.ensures _ _)

pub returns-in-26 : goal.returns-in-26
unfolding exec op_of
returns-in-26 c found start len = rw c.in-26.is (c.float_step-in-26.ensures _ _)

pub returns-in-31 : goal.returns-in-31
unfolding exec op_of
returns-in-31 c found start len = rw c.in-31.is (c.convert.ensures _ _)

pub returns-in-32 : goal.returns-in-32
unfolding exec op_of
returns-in-32 c found start len = rw c.in-32.is (c.convert-in-32.ensures _ _)

pub returns-in-33 : goal.returns-in-33
unfolding exec op_of
returns-in-33 c found start len = rw c.in-33.is (c.convert-in-33.ensures _ _)

pub returns-in-34 : goal.returns-in-34
unfolding exec op_of
returns-in-34 c found start len = rw c.in-34.is (c.convert-in-34.ensures _ _)

pub returns-in-35 : goal.returns-in-35
unfolding exec op_of
returns-in-35 c found start len = rw c.in-35.is (c.convert-in-35.ensures _ _)

pub returns-in-36 : goal.returns-in-36
unfolding exec op_of
returns-in-36 c found start len = rw c.in-36.is (c.convert-in-36.ensures _ _)

pub returns-in_default : goal.returns-in_default
unfolding exec change.moved
returns-in_default c found start len =
    success c.onward.ensures (λ f. rw (nop_at c.args.op (λ a b d e. grind (arith, no_jump c.args.op c.requires)) (λ e. omega arith)) refl) (search rules)
