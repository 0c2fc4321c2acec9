-- `put` of a label table of records meets its contract. Assumes nothing.
use Rattle.std.proofs.Common.{arith, rules}
use Rattle.loader.proofs.Stores.{record_more, record_over}
use Rattle.loader.proofs.slots.LabelLabelSlot.put.Goals as goal

pub returns : goal.returns
returns c =
    record {
      added = λ t ls k e. record_more t _ ls _ _ k e;
      over = λ t ls k h e. record_over t _ ls _ _ k h (omega (arith, c.requires)) e;
      long = search rules;
    }
