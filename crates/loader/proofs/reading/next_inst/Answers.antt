-- `loader::reading::next_inst` meets its contract. Assumes nothing.
use mathlib.Core.Path.{refl, sym}
use borrow.Author.Rules.{rules}
use borrow.Author.Tests.{le-leb}
use Rattle.std.proofs.lemmas.Result.{err_from_is_err_and}
use Rattle.inst_decode.proofs.Facts.{read_in_lem}
use Rattle.loader.proofs.Instructions.{next_refused, next_five, next_six, next_plain, next_label, further_at}
use Rattle.loader.proofs.reading.next_inst.Goals as goal

pub returns-in_err-i-clause-value : goal.returns-in_err-i-clause-value
returns-in_err-i-clause-value c s h e =
    let p = err_from_is_err_and c.from_residual.result c.from_residual.ensures.1 in
    rw (p.1, p.2) (next_refused _ _ s e _ (sym c.in_err-i.ensures))

pub returns-then-c-ge-INST_LIMIT : goal.returns-then-c-ge-INST_LIMIT
returns-then-c-ge-INST_LIMIT c = record { value = λ s h e. next_five _ _ s e _ _ (sym c.in_ok-i.ensures) c.if-c-ge-INST_LIMIT.true; ahead = tt }

pub counted-d-requires : goal.counted-d-requires
counted-d-requires c =
    let r = (read_in_lem _ _ _ _ (sym c.in_ok-i.ensures)).inside in record { insts_lt_inst_limit = c.if-c-ge-INST_LIMIT.false; size_bound = search rules }

pub returns-then-i-ne-LABEL : goal.returns-then-i-ne-LABEL
returns-then-i-ne-LABEL c =
    let f = sym c.in_ok-i.ensures in rw c.counted-d.ensures (record { value = λ s h e. next_plain _ _ s e _ _ f c.if-c-ge-INST_LIMIT.false c.if-i-ne-LABEL.true; ahead = further_at _ _ _ _ f c.if-c-ge-INST_LIMIT.false _ refl refl })

pub returns-then-c-ge-LABEL_RECORDS : goal.returns-then-c-ge-LABEL_RECORDS
returns-then-c-ge-LABEL_RECORDS c = record { value = λ s h e. next_six _ _ s e _ _ (sym c.in_ok-i.ensures) c.if-c-ge-INST_LIMIT.false c.if-i-ne-LABEL.false c.if-c-ge-LABEL_RECORDS.true; ahead = tt }

pub returns : goal.returns
returns c =
    let f = sym c.in_ok-i.ensures in
    let inside = (read_in_lem _ _ _ _ f).name_inside in
    rw (c.labelled.ensures, c.then_some-start.ensures, c.counted-d.ensures, c.is_start.ensures, le-leb _ _ inside)
    (record { value = λ s h e. next_label _ _ s e _ _ f h c.if-c-ge-INST_LIMIT.false c.if-i-ne-LABEL.false c.if-c-ge-LABEL_RECORDS.false; ahead = further_at _ _ _ _ f c.if-c-ge-INST_LIMIT.false _ refl refl })
