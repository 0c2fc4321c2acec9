-- `mm_host::mm_encoded_size` meets its contract. Assumes nothing.
use Rattle.mm_host.specs.Calls.{size_call}
use Rattle.mm_host.proofs.mm_encoded_size.Goals as goal

pub returns : goal.returns
unfolding size_call
returns c = rw (c.from.ensures, c.encoded_size.ensures)
