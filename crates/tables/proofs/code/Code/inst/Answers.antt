-- `tables::code::Code::inst` meets its contract. Assumes nothing.
use Rattle.std.proofs.Common.{◌∙◌, arith}
use Rattle.tables.specs.Tables.{inst}
use Rattle.tables.proofs.Laws.{record_at}
use Rattle.tables.proofs.code.Code.inst.Goals as goal

pub returns : goal.returns
returns c = c.record_at.ensures (inst 0 0 0 0) ∙ record_at inst c.args.self.insts.now c.args.i _ (omega (arith, c.args.self.inside))
