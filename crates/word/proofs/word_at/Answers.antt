-- `word::word_at` meets its contract. Assumes nothing.
use Rattle.word.proofs.Laws.{eight_added}
use Rattle.word.proofs.word_at.Goals as goal

pub returns : goal.returns
returns c = rw (c.from.ensures, c.from-2.ensures, c.from-3.ensures, c.from-4.ensures, c.from-5.ensures, c.from-6.ensures, c.from-7.ensures, c.from-8.ensures) (eight_added _ _ c.requires)
