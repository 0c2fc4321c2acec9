-- `digests::replay_image` meets its contract. Assumes nothing.
use borrow.Author.Tests.{eq-eqb, ne_eqb}
use Rattle.tables.proofs.Numbers.{length_records}
use Rattle.loader.specs.Loading.{means}
use Rattle.digests.specs.Digests.{word}
use Rattle.digests.specs.Replays.{replayed}
use Rattle.digests.proofs.Replaying.{and_true, and_false, accepted_is}
use Rattle.digests.proofs.replay_image.Goals as goal

pub returns-in-Err : goal.returns-in-Err
unfolding means replayed
returns-in-Err c =
    let f = c.from_binary.ensures in
    record { answers = rw (← f.answers, c.in-Err.is, c.from.ensures); insts_are = f.insts_are; labels_are = f.labels_are }

pub returns-then-all : goal.returns-then-all
unfolding means
returns-then-all c =
    let f = c.from_binary.ensures in
    record { answers = rw (← f.answers, c.in-Ok.is) (accepted_is _ _ _ _ _ _ c.agreeing_steps-steps.ensures c.fresh-m.ensures (rw (length_records word, eq-eqb _ _ c.if-all.true, and_true))); insts_are = f.insts_are; labels_are = f.labels_are }

pub returns-else-all : goal.returns-else-all
unfolding means
returns-else-all c =
    let f = c.from_binary.ensures in
    record { answers = rw (← f.answers, c.in-Ok.is) (accepted_is _ _ _ _ _ _ c.agreeing_steps-steps.ensures c.fresh-m.ensures (rw (length_records word, ne_eqb _ _ c.if-all.false, and_false))); insts_are = f.insts_are; labels_are = f.labels_are }
