-- `encoder::write` meets its contract. Assumes nothing.
use Rattle.tables.specs.Tables.{insts_of}
use Rattle.encoder.proofs.Records.{Stored}
use Rattle.encoder.proofs.write.Given as goal

abbrev pub invariant-loop-i : goal.invariant-loop-i
invariant-loop-i l = Stored l.code.image.now (insts_of l.code.insts.now) l.code.count l.initial.out l.out l.at l.i
