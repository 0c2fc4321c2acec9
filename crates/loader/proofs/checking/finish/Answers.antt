-- `loader::checking::finish` meets its contract. Assumes nothing.
use Prim.Native.Nat.{ℕ, ◌+◌}
use mathlib.Core.Bool.{cond}
use mathlib.Core.Path.{◌≡◌, refl, ap, sym}
use Rattle.std.specs.Prelude.{Option, Some, None, Err, ok_or}
use Rattle.std.proofs.lemmas.Result.{err_from_is_err_and}
use Rattle.loader.specs.declared.refusal.Refusal.{Refusal}
use Rattle.loader.specs.declared.refusal.Refusal.TheVariants.{NoStart}
use Rattle.loader.specs.Loading.{checked_of}
use Rattle.loader.proofs.Ends.{no_entry_lem, too_many, has_native, accepted_there}
use Rattle.loader.proofs.checking.finish.Goals as goal
use Rattle.loader.proofs.checking.finish.Goals.{then-c, else-c, Joined-c}

-- the instructions with an appended HALT
count_is : (c : Joined-c) → c.if-c.count ≡ cond c.args.c.halt c.args.c.insts (c.args.c.insts + 1)
count_is c = elim c.if-c.branch [ then-c w ↦ rw w.if-c.true w.count-is | else-c w ↦ rw w.if-c.false w.count-is ]

-- ok_or's refusal
none_there : (o : Option ℕ) (e : Refusal) → Err e ≡ ok_or o NoStart → (None ≡ o) × (e ≡ NoStart)
none_there None e h = (refl, cc)
none_there (Some t) e h = cc

pub returns-in_err-ip : goal.returns-in_err-ip
unfolding checked_of
returns-in_err-ip c image s e =
    let p = err_from_is_err_and c.from_residual.result c.from_residual.ensures.1 in
    let q = none_there c.args.c.start _ c.in_err-ip.ensures.value in
    rw (p.1, p.2, q.1) (ap checked_of (no_entry_lem image _ s e q.0))

pub returns-then-count-gt-INST_LIMIT : goal.returns-then-count-gt-INST_LIMIT
unfolding checked_of
returns-then-count-gt-INST_LIMIT c image s e =
    ap checked_of (too_many image _ s e _ (sym c.in_ok-ip.ensures.ok_part) _ (count_is (goal.at.returns-then-count-gt-INST_LIMIT c).Joined-c) c.if-count-gt-INST_LIMIT.true)

pub returns-then-c-2 : goal.returns-then-c-2
unfolding checked_of
returns-then-c-2 c image s e =
    ap checked_of (has_native image _ s e _ (sym c.in_ok-ip.ensures.ok_part) _ (count_is (goal.at.returns-then-c-2 c).Joined-c) c.if-count-gt-INST_LIMIT.false c.if-c-2.true)

pub returns : goal.returns
returns c image s e =
    accepted_there image _ s e _ (sym c.in_ok-ip.ensures.ok_part) _ (count_is (goal.at.returns c).Joined-c) c.if-count-gt-INST_LIMIT.false c.if-c-2.false
