-- What is proved of the definitions, together. `machine_theorems` in src/lib.rt states that it holds.
use Rattle.std.specs.Prelude.{◌≡◌, true}
use Rattle.machine.specs.Ending.{EndingsDiffer}
use Rattle.machine.specs.Steps.{TrapsLeave, StepsTouch}
use Rattle.machine.specs.Statements.{RunsAreHistories, OnlyOneResult, RunsAreOneHistory, NamesLeadToLast, ReadsToEnd, WalksToEnd}
use Rattle.machine.specs.Marks.{marks, all_hold}
use Rattle.machine.specs.PlainNaN.{TypesOfNaNs, PlainNaNs, NaNResultConverts, ZeroByZeroConverts}

pub record Theorems : Type 0 where
  pub one_history : RunsAreOneHistory
  pub runs : RunsAreHistories
  pub only_one : OnlyOneResult
  pub endings_differ : EndingsDiffer
  pub traps_leave : TrapsLeave
  pub steps_touch : StepsTouch
  pub names_lead_to_last : NamesLeadToLast
  pub reads_to_end : ReadsToEnd
  pub walks_to_end : WalksToEnd
  pub marks_hold : all_hold marks ≡ true
  pub types_of_nans : TypesOfNaNs
  pub plain_nans : PlainNaNs
  pub nan_result_converts : NaNResultConverts
  pub zero_by_zero_converts : ZeroByZeroConverts
