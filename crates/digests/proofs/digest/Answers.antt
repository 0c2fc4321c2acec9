-- `digests::digest` meets its contract. Assumes nothing.
use native.Mathlib.Omega.{arith}
use lib.ListN.{take}
use Rattle.std.proofs.lemmas.Grind.{common_steps}
use Rattle.machine.specs.declared.Machine.{Machine}
use Rattle.digests.specs.Digests.{numbers, digest_of}
use Rattle.digests.proofs.Laws.{of_bool, parts}
use Rattle.digests.proofs.digest.Goals as goal

pub returns : goal.returns
unfolding digest_of
returns c =
    let m : Machine = c.args.m.now in
    parts (numbers c.args.ending c.args.cell m) (take m.height m.stack) (take m.call_height m.calls) m.memory _ _ _ _
    (rw (c.from.ensures, c.from-2.ensures, of_bool m.halted) at c.mix_cells-a.ensures)
    c.mix_cells-b.ensures
    c.mix_cells-c.ensures
    (grind (arith, common_steps))
