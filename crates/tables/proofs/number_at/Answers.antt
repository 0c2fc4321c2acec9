-- `tables::number_at` meets its contract. Assumes nothing.
use mathlib.Core.Path.{◌∙◌, sym}
use Rattle.tables.proofs.Bytes.{number_word}
use Rattle.tables.proofs.number_at.Goals as goal

pub returns : goal.returns
returns c = c.word_at.ensures ∙ sym (number_word _ _ c.requires)
