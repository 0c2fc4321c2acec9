-- `put` of a label table in bytes meets its contract. Assumes nothing.
use Rattle.std.proofs.Common.{arith, length, sym, ap, ◌≡◌, ◌/◌, ◌∙◌}
use lib.Seq.{length-sets}
use Rattle.tables.specs.Tables.{label}
use Rattle.tables.proofs.Laws.{length_records}
use Rattle.loader.proofs.Stores.{label_more, label_over}
use Rattle.loader.proofs.slots.U8LabelSlot.put.Goals as goal

pub put-requires : goal.put-requires
put-requires c = omega (arith, c.requires, length_records label c.args.labels.now)

pub returns : goal.returns
returns c =
    let e : length c.put.new.table ≡ length c.args.labels.now = simp (c.put.ensures, length-sets) in
    record {
      added = λ t ls k e. c.put.ensures ∙ label_more t _ ls _ _ k e;
      over = λ t ls k h e. c.put.ensures ∙ label_over t _ ls _ _ k h e;
      long = length_records label c.put.new.table ∙ ap (λ n. n / 32) e ∙ sym (length_records label c.args.labels.now);
    }
