-- `one_history::call_theorems` meets its contract. Assumes nothing.
use Rattle.one_history.proofs.Lists.{calls_are_one_history, record_calls_are_one_history}
use Rattle.one_history.proofs.call_theorems.Goals as goal

pub returns : goal.returns
returns c = record { by_bytes = calls_are_one_history; by_records = record_calls_are_one_history }
