-- The answer of a load into a label table of records, as numbers. Assumes nothing.
use Rattle.std.specs.Prelude.{ℕ, ◌≡◌, Result, Ok, Err, List}
use Rattle.machine.specs.declared.Label.{Label}
use Rattle.machine.specs.Load.{Load, rejects, accepts, labels_after, count_of}
use Rattle.loader.specs.declared.Accepted.{Accepted}
use Rattle.loader.specs.declared.refusal.Refusal.{Refusal}
use Rattle.loader.specs.Refusals.{number_of}
use Rattle.loader.specs.Loading.{accepted_of, insts_left, slots_left, LoadTables}
use Rattle.label_loader.specs.declared.LoadAnswer.{LoadAnswer}
use Rattle.label_loader.specs.Loading.{LoadCall, loaded_by, numbers_of}

-- the answer and both tables
abbrev call : LoadAnswer → List ℕ → List Label → LoadCall
call a insts labels = record { number = a.number; ip = a.ip; count = a.count; insts = insts; labels = labels }

pub answered : (x : Load) (r : Result Accepted Refusal) (insts insts' : List ℕ) (labels labels' : List Label) → LoadTables (λ ls. ls) x insts labels r insts' labels'
    → loaded_by x insts labels ≡ call (numbers_of r) insts' labels'
unfolding loaded_by accepted_of insts_left labels_after slots_left
answered (rejects n) (Ok a) insts insts' labels labels' t = let e = t.answers in cc
answered (rejects n) (Err r) insts insts' labels labels' t = let z : number_of r ≡ n = let e = t.answers in cc in rw (z, t.insts_are, t.labels_are)
answered (accepts l) (Ok a) insts insts' labels labels' t =
    let z : a ≡ record { ip = l.ip; count = count_of l } = let e = t.answers in cc in rw (z, t.insts_are, t.labels_are)
answered (accepts l) (Err r) insts insts' labels labels' t = let e = t.answers in cc
