-- `one_history::load` meets its contract: an image's elements are bytes by their type. Assumes nothing.
use native.Mathlib.Omega.{arith}
use Rattle.one_history.proofs.load.Goals as goal

pub returns : goal.returns
returns c = record { from_binary = c.from_binary.ensures; bytes = λ k. omega (arith, c.shared_slice_known-1.given k) }
