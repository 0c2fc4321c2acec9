-- `tables::record_at` meets its contract. Assumes nothing.
use mathlib.Core.Path.{sym, ◌∙◌}
use Rattle.tables.proofs.Laws.{record_at}
use Rattle.tables.proofs.record_at.Goals as goal

pub returns : goal.returns
returns g c d =
    c.from_numbers.ensures
    ∙ rw (c.number_at.ensures, c.number_at-2.ensures, c.number_at-3.ensures, c.number_at-4.ensures) (sym (record_at g.R.Record.of_numbers c.args.table.now c.args.i d c.requires))
