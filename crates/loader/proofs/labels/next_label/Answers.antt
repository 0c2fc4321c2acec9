-- `loader::labels::next_label` meets its contract. Assumes nothing.
use Rattle.std.proofs.Common.{rules, tests}
use Rattle.std.proofs.lemmas.Iterator.{first_from_Range}
use Rattle.loader.specs.Linking.{IsLabel}
use Rattle.loader.proofs.labels.next_label.Goals as goal

pub returns : goal.returns
returns c =
    first_from_Range _ _ _ _ (IsLabel c.args.code.insts.now) (λ n. IsLabel c.args.code.insts.now n → ⊥) c.find.ensures.ran (λ n q k. search (rules, tests)) (λ n q k. search (rules, tests))
