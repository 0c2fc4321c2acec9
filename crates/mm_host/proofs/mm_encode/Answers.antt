-- `mm_host::mm_encode` meets its contract. Assumes nothing.
use Rattle.mm_host.specs.Calls.{encode_call}
use Rattle.mm_host.proofs.mm_encode.Goals as goal

pub returns : goal.returns
unfolding encode_call
returns c = let e = c.to_binary.ensures in rw (c.from.ensures, e.result_value, e.out_after)
