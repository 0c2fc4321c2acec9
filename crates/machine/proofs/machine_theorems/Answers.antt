-- `machine::machine_theorems` meets its contract. Assumes nothing.
use Rattle.machine.proofs.Runs.{runs_are_one_history, names_lead_to_last}
use Rattle.machine.proofs.Histories.{runs_are_histories}
use Rattle.machine.proofs.Only.{only_one}
use Rattle.machine.proofs.Endings.{endings_differ}
use Rattle.machine.proofs.Does.{traps_leave, steps_touch}
use Rattle.machine.proofs.Fuel.{reads_to_end, walks_to_end}
use Rattle.machine.proofs.Marks.{marks_hold}
use Rattle.machine.proofs.PlainNaN.{types_of_nans, plain_nans, nan_result_converts, zero_by_zero_converts}
use Rattle.machine.proofs.machine_theorems.Goals as goal

pub returns : goal.returns
returns c = record { one_history = runs_are_one_history; runs = runs_are_histories; only_one = only_one; endings_differ = endings_differ; traps_leave = traps_leave; steps_touch = steps_touch; names_lead_to_last = names_lead_to_last; reads_to_end = reads_to_end; walks_to_end = walks_to_end; marks_hold = marks_hold; types_of_nans = types_of_nans; plain_nans = plain_nans; nan_result_converts = nan_result_converts; zero_by_zero_converts = zero_by_zero_converts }
