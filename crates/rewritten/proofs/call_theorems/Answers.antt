-- `rewritten::call_theorems` meets its contract. Assumes nothing.
use Rattle.rewritten.proofs.Calls.{calls_are_rewritten}
use Rattle.rewritten.proofs.call_theorems.Goals as goal

pub returns : goal.returns
returns c = calls_are_rewritten
