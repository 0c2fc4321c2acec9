-- `known::learn` meets its contract. Assumes nothing.
use Rattle.known.specs.Keeps.{Learns}
use Rattle.known.proofs.Known.learn.Given as goal

abbrev pub invariant-loop-i : goal.invariant-loop-i
invariant-loop-i l = Learns l.code.image.now l.code.insts.now l.code.count l.initial.self l.self
