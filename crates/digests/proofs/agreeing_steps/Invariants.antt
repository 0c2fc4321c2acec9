-- `digests::agreeing_steps` meets its contract. Assumes nothing.
use Rattle.tables.specs.Tables.{program, records_of}
use Rattle.digests.specs.Digests.{word}
use Rattle.digests.proofs.Laws.{Agreeing}
use Rattle.digests.proofs.agreeing_steps.Given as goal

abbrev pub invariant-loop-i : goal.invariant-loop-i
invariant-loop-i l = Agreeing (program l.image l.insts l.labels l.count) l.initial.machine (records_of word l.recorded) l.machine l.i
