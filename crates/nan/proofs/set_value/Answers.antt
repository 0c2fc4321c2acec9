-- `nan::set_value` meets its contract, on either side of 0.
-- Assumes nothing.
use Rattle.std.proofs.Common.{true, false}
use Rattle.nan.proofs.Laws.{boxed_of}
use Rattle.nan.proofs.set_value.Goals as goal
use Rattle.nan.proofs.set_value.Goals.{then-v-lt0, else-v-lt0}

pub returns : goal.returns
returns c =
    let top = c.args.top in
    let v = c.args.v in
    let h = c.ranges.v.sfits in
    elim c.if-v-lt0.branch [
      | then-v-lt0 w ↦ rw (w.sign-is, c.unsigned_abs.ensures.value) (boxed_of top v true h w.if-v-lt0.true)
      | else-v-lt0 w ↦ rw (w.sign-is, c.unsigned_abs.ensures.value) (boxed_of top v false h w.if-v-lt0.false)
    ]
