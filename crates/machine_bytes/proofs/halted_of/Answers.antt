-- `machine_bytes::halted_of` meets its contract. Assumes nothing.
use Rattle.std.proofs.Common.{refl, ◌≤◌, get_or, rules}
use borrow.Author.Tests.{eq-eqb, le-ltb}
use Rattle.machine_bytes.specs.Layout.{is_machine, machine_of}
use Rattle.machine_bytes.proofs.halted_of.Goals as goal

pub returns-in-0 : goal.returns-in-0
unfolding is_machine machine_of
returns-in-0 c = rw (eq-eqb _ _ c.told-machine, c.in-0.is) refl

pub returns-in-1 : goal.returns-in-1
unfolding is_machine machine_of
returns-in-1 c = rw (eq-eqb _ _ c.told-machine, c.in-1.is) refl

pub returns-in_default : goal.returns-in_default
unfolding is_machine machine_of
returns-in_default c =
    let above : 2 ≤ get_or c.args.machine.now 17433 0 = search rules in
    rw (eq-eqb _ _ c.told-machine, le-ltb _ _ above) refl
