-- `inst::Form::of` meets its contract: antt computes the 256 letters by the listed ranges and compares them with the table. Assumes nothing.
use Prim.Native.Nat.{ℕ, ◌<◌}
use mathlib.Core.Path.{◌≡◌, sym, ◌∙◌}
use lib.ListN.{get_or}
use Rattle.inst.specs.Forms.{means, form_at, has_none, has_eight, has_one, has_name, form_of}
use Rattle.inst.specs.declared.forms.TheConstants.{LETTERS}
use Rattle.inst.proofs.Laws.{no_form, letter_of, is_letter, no_letter}
use Rattle.inst.proofs.Table.{entry}
use Rattle.inst.proofs.forms.Form.of.Goals as goal

read : (op n : ℕ) → op < 256 → n ≡ get_or LETTERS op n → n ≡ letter_of (form_of op)
unfolding form_of has_none has_eight has_one has_name letter_of
read op n h e = e ∙ entry n (λ k. letter_of (form_of k)) 256 op h

pub returns-in_err-get : goal.returns-in_err-get
unfolding means
returns-in_err-get c = rw c.from_residual.ensures (sym (no_form c.args.op c.in_err-get.ensures.lookup.3))

pub returns-in-45 : goal.returns-in-45
unfolding means form_at
returns-in-45 c = let h = c.in_ok-get.ensures.lookup in is_letter c.args.op _ 45 (read _ _ h.3.0 h.1) c.in-45.is

pub returns-in-56 : goal.returns-in-56
unfolding means form_at
returns-in-56 c = let h = c.in_ok-get.ensures.lookup in is_letter c.args.op _ 56 (read _ _ h.3.0 h.1) c.in-56.is

pub returns-in-49 : goal.returns-in-49
unfolding means form_at
returns-in-49 c = let h = c.in_ok-get.ensures.lookup in is_letter c.args.op _ 49 (read _ _ h.3.0 h.1) c.in-49.is

pub returns-in-110 : goal.returns-in-110
unfolding means form_at
returns-in-110 c = let h = c.in_ok-get.ensures.lookup in is_letter c.args.op _ 110 (read _ _ h.3.0 h.1) c.in-110.is

pub returns-in_default : goal.returns-in_default
unfolding means
returns-in_default c =
    let h = c.in_ok-get.ensures.lookup in
    let r = c.in_default.in_default-own.rest in
    no_letter c.args.op _ (read _ _ h.3.0 h.1) r.0.0.0.1 r.0.0.1 r.0.1 r.1
