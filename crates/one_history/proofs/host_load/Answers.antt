-- `one_history::host_load` meets its contract: an image's elements are bytes by their type. Assumes nothing.
use native.Mathlib.Omega.{arith}
use Rattle.one_history.proofs.host_load.Goals as goal

pub returns : goal.returns
returns c = record { machine_value = c.mm_load.ensures; bytes = λ k. omega (arith, c.shared_slice_known-1.given k) }
