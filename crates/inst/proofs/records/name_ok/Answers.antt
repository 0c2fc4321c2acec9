-- `inst::name_ok` meets its contract. Assumes nothing.
use Rattle.std.proofs.Common.{ltb, refl, rules}
use Rattle.std.proofs.lemmas.List.Recursion.{and_is}
use Rattle.inst.specs.Records.{name_ok}
use Rattle.inst.proofs.records.name_ok.Goals as goal

pub returns-then-bytes-lt8 : goal.returns-then-bytes-lt8
unfolding name_ok
returns-then-bytes-lt8 c = and_is name_ok (λ x. ltb x 128) refl (λ _ _. refl) c.args.bytes.now 0 _ (search rules) (search rules)
