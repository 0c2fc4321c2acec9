-- `offsets::offset_theorems` meets its contract. Assumes nothing.
use Rattle.offsets.proofs.Offsets.{size_is_sum, writes}
use Rattle.offsets.proofs.Calls.{calls_write, host_calls_write, host_calls_ask}
use Rattle.offsets.proofs.offset_theorems.Goals as goal

pub returns : goal.returns
returns c = record { at_offsets = writes; size_is_sum = size_is_sum; calls = calls_write; host_calls = host_calls_write; host_asks = host_calls_ask }
