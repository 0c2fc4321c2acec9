-- `lookup::lookup` meets its contract. Assumes nothing.
use Rattle.std.proofs.Common.{◌≡◌, Err, [], sym, ap, ◌∙◌, arith}
use Rattle.std.specs.Prelude.{Option, Some, None, ok_or}
use Rattle.std.proofs.lemmas.Result.{err_from_is_err_and}
use Rattle.inst.specs.Records.{same}
use Rattle.machine.specs.Load.{head}
use Rattle.step_core.specs.declared.LookupError.{LookupError}
use Rattle.step_core.specs.declared.LookupError.TheVariants.{IllChain}
use Rattle.lookup.proofs.Chain.{headless, head_ill, head_on, ends, high, out, finds_it, on, program_found}
use Rattle.lookup.proofs.lookup.Goals as goal

-- ok_or's error
ill_there : {A : Type 0} (o : Option A) (e : LookupError) → Err e ≡ ok_or o IllChain → e ≡ IllChain
ill_there None e h = cc
ill_there (Some x) e h = cc

pub returns-then-bound-eq0 : goal.returns-then-bound-eq0
returns-then-bound-eq0 g c insts = sym (headless _ _ (sym c.count-bound.ensures ∙ c.if-bound-eq0.true))

pub returns-in_default : goal.returns-in_default
returns-in_default g c insts = sym (head_ill _ _ (omega (arith, c.count-bound.ensures, c.if-bound-eq0.false)) _ (sym (c.record.ensures (head 0))) (λ s n t. omega arith))

pub returns-in_default-2 : goal.returns-in_default-2
returns-in_default-2 g c insts = sym (head_ill _ _ (omega (arith, c.count-bound.ensures, c.if-bound-eq0.false)) _ (sym (c.record.ensures (head 0))) (λ s n t. omega arith))

pub returns-in_default-3 : goal.returns-in_default-3
returns-in_default-3 g c insts = sym (head_ill _ _ (omega (arith, c.count-bound.ensures, c.if-bound-eq0.false)) _ (sym (c.record.ensures (head 0))) (λ s n t. omega arith))

pub loop-next-init : goal.loop-next-init
loop-next-init g c insts =
    rw c.count-bound.ensures (head_on _ _ (omega (arith, c.count-bound.ensures, c.if-bound-eq0.false)) _ (sym (c.record.ensures (head 0))) (omega arith) (omega arith) (omega arith))

pub returns-then-bound-next : goal.returns-then-bound-next
returns-then-bound-next g c insts = sym (high _ _ _ _ (c.loop-next.invariant insts) c.loop-next-test.true c.if-bound-next.true)

pub record-label-requires : goal.record-label-requires
record-label-requires g c = let inside = (c.loop-next.invariant []).inside in omega (arith, c.if-bound-next.false, inside)

pub returns-in_err-found : goal.returns-in_err-found
returns-in_err-found g c insts =
    let p = err_from_is_err_and c.from_residual.result c.from_residual.ensures.1 in
    let ill = rw c.in_err-found.ensures.ok_part at c.name.ensures in
    rw (p.1, p.2, ill_there c.name.result _ c.in_err-found.ensures.value)
    (sym (out _ _ _ _ (c.loop-next.invariant insts) c.loop-next-test.true (omega (arith, c.if-bound-next.false)) _ (sym (c.record-label.ensures (head 0))) ill))

pub returns-then-same_name : goal.returns-then-same_name
returns-then-same_name g c insts =
    let own = rw c.in_ok-found.ensures.ok_part at c.name.ensures in
    let is = ap (same c.args.name.now) (sym own.1) ∙ sym c.same_name.ensures ∙ c.if-same_name.true in
    program_found _ _ c.in_program.ensures
    ∙ sym (finds_it _ _ _ _ (c.loop-next.invariant insts) c.loop-next-test.true (omega (arith, c.if-bound-next.false)) _ (sym (c.record-label.ensures (head 0))) own.0 is)

pub loop-next-preserved : goal.loop-next-preserved
loop-next-preserved g c insts =
    let own = rw c.in_ok-found.ensures.ok_part at c.name.ensures in
    let is = ap (same c.args.name.now) (sym own.1) ∙ sym c.same_name.ensures ∙ c.if-same_name.false in
    on _ _ _ _ (c.loop-next.invariant insts) c.loop-next-test.true (omega (arith, c.if-bound-next.false)) _ (sym (c.record-label.ensures (head 0))) own.0 is

pub returns : goal.returns
returns g c insts = sym (ends _ _ _ _ (c.loop-next.invariant insts) c.loop-next-test.false)
