-- `mm_host::mm_run` meets its contract. Assumes nothing.
use mathlib.Core.Path.{ap, sym, ◌∙◌}
use Rattle.machine_bytes.specs.Layout.{is_machine}
use Rattle.mm_host.specs.Calls.{run_call}
use Rattle.mm_host.proofs.Answers.{no_machine_of, no_machine_by, machine_by, read_is, run_called}
use Rattle.mm_host.proofs.mm_run.Goals as goal

pub returns-in_default : goal.returns-in_default
unfolding run_call
returns-in_default c = let short = rw c.in_default.is at c.as_mut_array.ensures.cases in rw (no_machine_of c.args.machine.now short)

pub returns-in_default-halted_of : goal.returns-in_default-halted_of
unfolding run_call
returns-in_default-halted_of c =
    let whole = rw c.in-Some.is at c.as_mut_array.ensures.cases in
    rw (whole.same, ap is_machine (sym whole.same) ∙ no_machine_by _ _ (sym c.halted_of.ensures ∙ c.in_default-halted_of.is))

pub returns : goal.returns
returns c =
    let whole = rw c.in-Some.is at c.as_mut_array.ensures.cases in
    let is = machine_by _ _ (sym c.halted_of.ensures ∙ c.in-Some-halted_of.is) in
    let a = c.args in
    rw (c.new.ensures, c.steps.ensures) (ap (λ m. run_call a.image.now a.insts.now a.labels.now a.count m a.limit a.dumps.now) (sym whole.same)
    ∙ run_called _ _ _ _ _ _ _ _ _ _ _ _ _ _ is.0
    (read_is _ _ _ _ _ _ _ c.read_arrays.ensures c.registers_of.ensures c.flags_of.ensures is.1)
    c.execute_parts-outcome.ensures
    (rw (← c.is_halted.ensures) c.write_parts.ensures))
