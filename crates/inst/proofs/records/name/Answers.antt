-- `inst::name` meets its contract: it is a part that is inside, by its check. Assumes nothing.
use Rattle.std.proofs.Common.{◌∙◌, sym, ap, rules}
use borrow.Author.Tests.{le-leb, lt-leb}
use Rattle.inst.specs.Records.{name_in, name_ok}
use Rattle.inst.proofs.records.name.Goals as goal

pub returns-in_err-name : goal.returns-in_err-name
unfolding name_in
returns-in_err-name c = rw c.from_residual.ensures (simp (lt-leb _ _ c.in_err-name.ensures))

pub returns-then-name_ok : goal.returns-then-name_ok
unfolding name_in
returns-then-name_ok c =
    let own = c.in_ok-name.ensures in
    (simp (le-leb _ _ own.0) (ap name_ok (sym own.1) ∙ sym c.name_ok.ensures ∙ c.if-name_ok.true), own.1)

pub returns-else-name_ok : goal.returns-else-name_ok
unfolding name_in
returns-else-name_ok c =
    let own = c.in_ok-name.ensures in
    simp (le-leb _ _ own.0) (ap name_ok (sym own.1) ∙ sym c.name_ok.ensures ∙ c.if-name_ok.false)
