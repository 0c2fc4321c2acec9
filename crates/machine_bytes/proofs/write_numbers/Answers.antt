-- `machine_bytes::write_numbers` meets its contract. Assumes nothing.
use mathlib.Core.Path.{refl}
use native.Mathlib.Omega.{arith}
use Rattle.tables.specs.Tables.{bytes_of}
use Rattle.machine_bytes.proofs.Copies.{wrote_more, wrote_all}
use Rattle.machine_bytes.proofs.write_numbers.Goals as goal

pub loop-i-init : goal.loop-i-init
unfolding bytes_of
loop-i-init c = record { is = refl; long = refl; inside = omega arith }

pub put_word-requires : goal.put_word-requires
put_word-requires c = omega (arith, c.requires, c.loop-i.invariant.long, c.loop-i-test.true)

pub loop-i-preserved : goal.loop-i-preserved
loop-i-preserved c = wrote_more _ _ _ _ _ _ c.loop-i.invariant c.loop-i-test.true c.put_word.ensures

pub shape_of-to : goal.shape_of-to
shape_of-to c = c.loop-i.invariant.long

pub returns : goal.returns
returns c = wrote_all _ _ _ _ _ c.loop-i.invariant c.loop-i-test.false
