-- `count` of a label table in bytes meets its contract. Assumes nothing.
use Rattle.std.proofs.Common.{sym}
use Rattle.tables.specs.Tables.{label}
use Rattle.tables.proofs.Laws.{length_records}
use Rattle.tables.proofs.labels.RefSliceU8LabelTable.count.Goals as goal

pub returns : goal.returns
returns c = sym (length_records label c.args.self.now)
