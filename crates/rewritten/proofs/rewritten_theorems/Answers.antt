-- `rewritten::rewritten_theorems` meets its contract. Assumes nothing.
use Rattle.rewritten.proofs.Answers.{asked_is_needed}
use Rattle.rewritten.proofs.Whole.{images_are_rewritten}
use Rattle.rewritten.proofs.rewritten_theorems.Goals as goal

pub returns : goal.returns
returns c = record { rewritten = images_are_rewritten; asked = asked_is_needed }
