-- `encoder::write` meets its contract. Assumes nothing.
use mathlib.Core.Path.{refl}
use native.Mathlib.Omega.{arith}
use Rattle.encoder.proofs.Records.{inst_at, table_within, stored_well, stored_fits, stored_next, stored_all}
use Rattle.encoder.proofs.write.Goals as goal

pub loop-i-init : goal.loop-i-init
loop-i-init c =
    record { within = table_within _ _ c.args.code.inside; inside = omega arith; well = c.requires.insts_value; fits = omega arith; same = refl; gives = refl }

pub as_bytes-size-requires : goal.as_bytes-size-requires
as_bytes-size-requires c =
    let t = c.loop-i-test.true in
    let e = inst_at _ _ _ _ c.args.code.inside t c.inst.ensures in
    let s = c.loop-i.invariant in
    let f = stored_fits _ _ _ _ _ _ _ s _ t e in
    record { inst_value = stored_well _ _ _ _ _ _ _ s _ t e; inst_in_bounds = f }

pub overflow_add-at : goal.overflow_add-at
overflow_add-at c =
    let t = c.loop-i-test.true in
    let s = c.loop-i.invariant in
    let f = stored_fits _ _ _ _ _ _ _ s _ t (inst_at _ _ _ _ c.args.code.inside t c.inst.ensures) in
    let e = c.as_bytes-size.ensures.value in
    omega (arith, s.same, c.well_formed)

pub loop-i-preserved : goal.loop-i-preserved
loop-i-preserved c =
    let t = c.loop-i-test.true in
    let s = c.loop-i.invariant in
    let e = c.as_bytes-size.ensures in
    let i = inst_at _ _ _ _ c.args.code.inside t c.inst.ensures in
    stored_next _ _ _ _ _ _ _ s _ _ _ t i e.value e.out_after

pub returns : goal.returns
returns c = stored_all _ _ _ _ _ _ _ c.loop-i.invariant c.loop-i-test.false
