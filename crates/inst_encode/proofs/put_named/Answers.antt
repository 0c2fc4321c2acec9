-- `inst_encode::put_named` meets its contract. Assumes nothing.
use Prim.Native.Nat.{◌<◌, ◌^◌}
use mathlib.Core.Path.{ap, ◌∙◌}
use native.Mathlib.Omega.{arith}
use lib.ListN.{length}
use lib.Seq.{length-sets}
use Rattle.inst_encode.specs.Encode.{bytes_of}
use Rattle.inst_encode.proofs.Laws.{eight_is, stored_copied}
use Rattle.inst_encode.proofs.Facts.{length_bytes}
use Rattle.inst_encode.proofs.put_named.Goals as goal

pub returns : goal.returns
returns c =
    let size = length c.args.name.now in
    let g = c.well_formed.0 in
    let small : size < 2 ^ 64 = omega arith in
    let stored = rw (eight_is size small) at c.put_word.ensures in
    let long = ap length stored ∙ length-sets c.args.out.now 0 (bytes_of 8 size) in
    rw c.copy_from_slice.ensures.after (stored_copied c.args.out.now _ _ (bytes_of 8 size) 0 8 _ (length_bytes 8 size) stored (omega arith) (omega (arith, long)) (omega arith))
