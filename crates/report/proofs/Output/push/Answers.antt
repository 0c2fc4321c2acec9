-- `report::Output::push` meets its contract. Assumes nothing.
use mathlib.Core.Path.{refl}
use borrow.Author.Rules.{rules}
use Rattle.report.proofs.Laws.{copied}
use Rattle.report.proofs.Output.push.Goals as goal

pub returns : goal.returns
returns c = record { same_reference = cc; put = record { text_is = copied _ _ _ _ _ refl c.requires c.copy_from_slice.ensures.after; next_is = search rules } }
