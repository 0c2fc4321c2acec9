-- `loader::labels::next_link` meets its contract. Assumes nothing.
use Rattle.std.proofs.Common.{sym, ap, ◌∙◌}
use Rattle.std.specs.Prelude.{Some}
use Rattle.loader.proofs.Seeks.{label_next, no_next}
use Rattle.loader.proofs.labels.next_link.Goals as goal

pub returns-then-l : goal.returns-then-l
returns-then-l c = sym (c.requires.all_linked c.if-l.true)

pub returns-in_err-n : goal.returns-in_err-n
returns-in_err-n c = c.from_residual.ensures ∙ no_next _ _ c.args.code.inside _ _ c.in_err-n.ensures

pub returns : goal.returns
returns c = ap Some c.label_link.ensures ∙ label_next _ _ c.args.code.inside _ _ _ c.in_ok-n.ensures
