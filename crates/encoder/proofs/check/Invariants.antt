-- `encoder::check` meets its contract. Assumes nothing.
use Rattle.tables.specs.Tables.{insts_of}
use Rattle.encoder.proofs.Records.{Checked}
use Rattle.encoder.proofs.check.Given as goal

abbrev pub invariant-loop-i : goal.invariant-loop-i
invariant-loop-i l = Checked l.code.image.now (insts_of l.code.insts.now) l.code.count l.room l.left l.i
