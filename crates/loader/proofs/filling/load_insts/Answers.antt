-- `loader::filling::load_insts` meets its contract. Assumes nothing.
use mathlib.Core.Path.{refl}
use native.Mathlib.Omega.{arith}
use Rattle.std.proofs.lemmas.Result.{err_from_is_err_and}
use Rattle.tables.specs.Tables.{inst, insts_of}
use Rattle.tables.proofs.Laws.{length_records}
use Rattle.machine.proofs.Loads.{enough}
use Rattle.loader.specs.Loading.{checked_of}
use Rattle.loader.proofs.Loads.{few, refused_load, accepted_load}
use Rattle.loader.proofs.filling.load_insts.Goals as goal

pub returns-then-insts-lt-INST_LIMIT : goal.returns-then-insts-lt-INST_LIMIT
unfolding checked_of
returns-then-insts-lt-INST_LIMIT c ls e =
    rw (few c.args.image.now (insts_of c.args.insts.now) ls (rw (length_records inst, e) c.then-insts-lt-INST_LIMIT.either)) (refused_load _ _ _ refl)

pub returns-in_err-checked : goal.returns-in_err-checked
returns-in_err-checked c ls e =
    let p = err_from_is_err_and c.from_residual.result c.from_residual.ensures.1 in
    rw (p.1, p.2, enough c.args.image.now (insts_of c.args.insts.now) ls (rw (length_records inst) c.if-insts-lt-INST_LIMIT.false) (rw e c.if-labels-lt-LABEL_RECORDS.false))
    (refused_load _ _ _ c.in_err-checked.ensures)

pub fill-requires : goal.fill-requires
fill-requires c = record { accepts = accepted_load _ _ c.in_ok-checked.ensures; inst_limit_in_bounds = omega (arith, c.if-insts-lt-INST_LIMIT.false) }

pub returns : goal.returns
returns c ls e =
    rw (enough c.args.image.now (insts_of c.args.insts.now) ls (rw (length_records inst) c.if-insts-lt-INST_LIMIT.false) (rw e c.if-labels-lt-LABEL_RECORDS.false))
    (record { answers = c.in_ok-checked.ensures; insts_are = c.fill.ensures })
