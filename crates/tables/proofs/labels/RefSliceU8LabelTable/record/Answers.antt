-- `record` of a label table in bytes meets its contract. Assumes nothing.
use Rattle.std.proofs.Common.{arith}
use Rattle.tables.specs.Tables.{label}
use Rattle.tables.proofs.Laws.{length_records}
use Rattle.tables.proofs.labels.RefSliceU8LabelTable.record.Goals as goal

pub record_at-requires : goal.record_at-requires
record_at-requires c = omega (arith, c.requires, length_records label c.args.self.now)
