-- `report::Output::ending` meets its contract. Assumes nothing.
use Rattle.report.specs.Text.{ending_text}
use Rattle.report.proofs.Laws.{numbered}
use Rattle.report.proofs.Output.ending.Goals as goal

pub push-requires : goal.push-requires
unfolding ending_text
push-requires c = rw c.in-Halted.is at c.requires

pub push-requires-in-Limit : goal.push-requires-in-Limit
unfolding ending_text
push-requires-in-Limit c = rw c.in-Limit.is at c.requires

pub number-requires : goal.number-requires
number-requires c = rw (c.from.ensures, ← numbered c.args.ending c.in_default.not-Halted c.in_default.not-Limit) c.requires

pub returns-in-Halted : goal.returns-in-Halted
unfolding ending_text
returns-in-Halted c = rw c.in-Halted.is c.push.ensures

pub returns-in-Limit : goal.returns-in-Limit
unfolding ending_text
returns-in-Limit c = rw c.in-Limit.is c.push-in-Limit.ensures

pub returns-in_default : goal.returns-in_default
returns-in_default c = rw (numbered c.args.ending c.in_default.not-Halted c.in_default.not-Limit, ← c.from.ensures) c.number.ensures
