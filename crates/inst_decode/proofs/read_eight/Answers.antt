-- `inst_decode::read_eight` meets its contract. Assumes nothing.
use Prim.Native.Nat.{◌+◌, ◌≤◌}
use mathlib.Core.Path.{◌≡◌, ◌∙◌}
use native.Mathlib.Omega.{arith}
use lib.ListN.{length}
use Rattle.inst_decode.proofs.Laws.{eight_is}
use Rattle.inst_decode.proofs.read_eight.Goals as goal

pub returns : goal.returns
returns c =
    let h = rw c.in_ok-eight.ensures.ok_part at c.split_first_chunk.ensures.cases in
    let l : length c.in_ok-eight.behind.now + 8 ≡ length c.args.operand.now = h.2 in
    let k : 8 ≤ length c.args.operand.now = omega arith in
    (k, c.from_le_bytes.ensures ∙ eight_is _ _ k h.0, h.1)
