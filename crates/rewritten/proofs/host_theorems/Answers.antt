-- `rewritten::host_theorems` meets its contract. Assumes nothing.
use Rattle.rewritten.proofs.Hosts.{host_calls_are_rewritten, record_calls_are_rewritten}
use Rattle.rewritten.proofs.host_theorems.Goals as goal

pub returns : goal.returns
returns c = record { by_bytes = host_calls_are_rewritten; by_records = record_calls_are_rewritten }
