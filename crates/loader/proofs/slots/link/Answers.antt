-- `loader::slots::link` meets its contract. Assumes nothing.
use Rattle.std.proofs.Common.{arith, refl}
use lib.ListN.{length-append}
use Rattle.loader.specs.Linking.{linked_on}
use Rattle.loader.proofs.slots.link.Goals as goal

pub put-requires-2 : goal.put-requires-2
put-requires-2 g c = omega (arith, c.requires, c.put.ensures.long)

pub returns : goal.returns
unfolding linked_on
returns g c t before k e =
    rw c.head.ensures at (c.put-2.ensures.over t _ refl (rw length-append (omega arith)) (c.put.ensures.added t before k e))
