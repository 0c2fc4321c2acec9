-- `inst::is_well_formed` meets its contract. Assumes nothing.
use Rattle.std.proofs.Common.{rules, ◌≡◌, ℕ, Bool, false, Option, Some, None, List, ap, ◌∙◌, MatchOption}
use Rattle.inst.specs.declared.Inst.{Inst}
use Rattle.inst.specs.declared.forms.Form.{Form as Kind}
use Rattle.inst.specs.Forms.{form_of, form_at, means}
use Rattle.inst.specs.Records.{fits, well_formed}
use Rattle.inst.proofs.records.is_well_formed.Goals as goal

by_form : (image : List ℕ) (i : Inst) (found : Option Kind) (b : Bool) (P : Kind → Type 0) → means found ≡ form_of i.typ
    → MatchOption found (b ≡ false) P → ((f : Kind) → P f → b ≡ fits image i (form_at f)) → b ≡ well_formed image i
unfolding well_formed means fits
by_form image i None b P e h t = h ∙ ap (fits image i) e
by_form image i (Some f) b P e h t = t f h ∙ ap (fits image i) e

pub returns : goal.returns
returns c = by_form _ c.args.inst _ _ _ c.of.ensures c.is_some_and.ensures (λ f p. search rules)
