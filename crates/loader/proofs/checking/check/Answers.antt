-- `loader::checking::check` meets its contract. Assumes nothing.
use mathlib.Core.Path.{ap, ◌∙◌}
use borrow.Author.Tests.{lt-ltb}
use Rattle.std.proofs.lemmas.Result.{err_from_is_err_and}
use Rattle.machine.specs.Load.{loads}
use Rattle.loader.specs.Loading.{checked_of}
use Rattle.loader.proofs.Rests.{checking_begins, checking_next, refuses_there, ends_there, loads_is}
use Rattle.loader.proofs.checking.check.Goals as goal

pub returns-then-image-gt-IMAGE_LIMIT : goal.returns-then-image-gt-IMAGE_LIMIT
unfolding loads checked_of
returns-then-image-gt-IMAGE_LIMIT c = simp (lt-ltb _ _ c.if-image-gt-IMAGE_LIMIT.true)

pub loop-c-init : goal.loop-c-init
loop-c-init c = checking_begins _ _ (c.first-c.ensures _)

pub returns-in_err-c : goal.returns-in_err-c
unfolding checked_of
returns-in_err-c c =
    let k = c.loop-c.invariant in
    let p = err_from_is_err_and c.from_residual.result c.from_residual.ensures.1 in
    rw (p.1, p.2, loads_is _ c.if-image-gt-IMAGE_LIMIT.false)
    (ap checked_of (refuses_there _ _ _ k.reached k.counts_are k.has_head k.rest c.loop-c-test.true _ (c.in_err-c.ensures.value k.reached k.has_head k.counts_are)))

pub loop-c-preserved : goal.loop-c-preserved
loop-c-preserved c =
    let k = c.loop-c.invariant in
    checking_next _ _ k c.loop-c-test.true _ c.in_ok-c.ensures.ahead (c.in_ok-c.ensures.value k.reached k.has_head k.counts_are)

pub returns : goal.returns
returns c =
    let k = c.loop-c.invariant in
    rw (loads_is _ c.if-image-gt-IMAGE_LIMIT.false) (c.finish.ensures _ k.reached k.counts_are ∙ ap checked_of (ends_there _ _ _ k.reached k.counts_are k.rest c.loop-c-test.false))
