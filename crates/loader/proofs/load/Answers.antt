-- `loader::load` meets its contract. Assumes nothing.
use mathlib.Core.Path.{sym}
use Rattle.std.proofs.lemmas.Result.{err_from_is_err_and}
use Rattle.loader.proofs.Passing.{code_inside, left_falls, underway_begins, index_inside, covers, underway_on, underway_ends, refused_ends}
use Rattle.loader.proofs.load.Goals as goal

pub returns-in_err-checked : goal.returns-in_err-checked
returns-in_err-checked g c =
    let f = c.in_err-checked.ensures (g.S.LabelSlot.records _) (sym c.count.ensures) in
    let p = err_from_is_err_and c.from_residual.result c.from_residual.ensures.1 in
    rw (p.1, p.2) (refused_ends _ _ g.S.LabelSlot.records _ _ _ _ f)

pub invariant_of-code : goal.invariant_of-code
invariant_of-code g c =
    let f = c.in_ok-checked.ensures (g.S.LabelSlot.records _) (sym c.count.ensures) in
    record { inside = code_inside _ _ g.S.LabelSlot.records g.S.LabelSlot.slots _ _ _ f }

pub loop-next-init : goal.loop-next-init
loop-next-init g c =
    let f = c.in_ok-checked.ensures (g.S.LabelSlot.records _) (sym c.count.ensures) in
    underway_begins _ _ g.S.LabelSlot.records _ _ _ f.answers _ c.head_link.ensures g.met.S.LabelSlot.none

pub link-requires : goal.link-requires
link-requires g c = index_inside _ _ g.S.LabelSlot.records _ _ _ _ (rw c.in-Some.is at c.loop-next.invariant) (g.met.S.LabelSlot.kept _)

pub next_link-next-requires : goal.next_link-next-requires
next_link-next-requires g c =
    let f = c.in_ok-checked.ensures (g.S.LabelSlot.records _) (sym c.count.ensures) in
    covers _ _ g.S.LabelSlot.records _ _ _ _ (rw c.in-Some.is at c.loop-next.invariant) _ _ f

pub loop-next-smaller : goal.loop-next-smaller
loop-next-smaller g c = rw c.in-Some.is (left_falls _ _ _ _ c.next_link-next.ensures)

pub loop-next-preserved : goal.loop-next-preserved
loop-next-preserved g c =
    let f = c.in_ok-checked.ensures (g.S.LabelSlot.records _) (sym c.count.ensures) in
    underway_on _ _ g.S.LabelSlot.records _ _ _ _ (rw c.in-Some.is at c.loop-next.invariant) _ _ f _ _ (c.link.ensures _) c.next_link-next.ensures

pub returns : goal.returns
returns g c =
    let f = c.in_ok-checked.ensures (g.S.LabelSlot.records _) (sym c.count.ensures) in
    underway_ends _ _ g.S.LabelSlot.records _ _ _ _ _ (rw c.in_default.is at c.loop-next.invariant) f
