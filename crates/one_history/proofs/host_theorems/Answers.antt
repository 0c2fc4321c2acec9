-- `one_history::host_theorems` meets its contract. Assumes nothing.
use Rattle.one_history.proofs.Hosts.{host_calls_are_one_history, in_place_host_calls_are_one_history}
use Rattle.one_history.proofs.host_theorems.Goals as goal

pub returns : goal.returns
returns c = record { by_bytes = host_calls_are_one_history; in_place = in_place_host_calls_are_one_history }
