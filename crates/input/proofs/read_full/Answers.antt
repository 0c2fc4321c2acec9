-- `input::read_full` meets its contract: what was read lies behind what was read before. Assumes nothing.
use Rattle.std.proofs.Common.{rules, ℕ, ◌+◌, ◌≤◌, ◌≡◌, List, ◌++◌, take, length, length-take-le, ap, ap₂, subst, sym, ◌∙◌}
use borrow.Rule.Slice.PartMut.{put_mid}
use lib.Seq.{take-add, take_at, drop_at, take-append-le}
use Rattle.std.specs.Io.KnownBytes.{Consumes}
use Rattle.std.proofs.KnownBytes.{Consumes-trans}
use Rattle.input.proofs.read_full.Goals as goal

front : (at room count : ℕ) (buffer read : List ℕ) → at ≤ length buffer → count ≤ length read
    → take at buffer ++ take count read ≡ take (at + count) (put_mid at room buffer read)
front at room count buffer read within fits =
    let long = length-take-le at buffer within in
    sym (take-add at count _ ∙ ap₂ (λ u v. u ++ v) (take_at _ _ at long) (ap (take count) (drop_at _ _ at long) ∙ take-append-le count read _ fits))

pub loop-at-preserved : goal.loop-at-preserved
loop-at-preserved g c =
    let before = c.loop-at.invariant in
    let joined = Consumes-trans _ _ _ _ _ before.bytes c.in-Ok.ensures.bytes.0 in
    record { within = search rules; same_room = search rules; bytes = subst (Consumes _ _) (front _ _ _ _ _ before.within c.in-Ok.ensures.bound.0) joined }
