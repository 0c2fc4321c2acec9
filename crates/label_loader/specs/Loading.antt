-- What the call answers and leaves where the label table is lent as records, by the load of document 01.
use Rattle.std.specs.Prelude.{ℕ, Result, Ok, Err, List}
use Rattle.machine.specs.declared.Label.{Label}
use Rattle.machine.specs.Load.{Load, rejects, accepts, load, count_of, labels_after}
use Rattle.tables.specs.Tables.{insts_of}
use Rattle.loader.specs.declared.Accepted.{Accepted}
use Rattle.loader.specs.declared.refusal.Refusal.{Refusal}
use Rattle.loader.specs.Refusals.{number_of}
use Rattle.loader.specs.Loading.{insts_left}
use Rattle.label_loader.specs.declared.LoadAnswer.{LoadAnswer}

-- the load of document 01 with the instruction table lent as bytes
abbrev pub load_of : List ℕ → List ℕ → List Label → Load
load_of image insts labels = load image (insts_of insts) labels

-- the answer's numbers and both tables afterwards
pub record LoadCall : Type 0 where
  pub number : ℕ
  pub ip : ℕ
  pub count : ℕ
  pub insts : List ℕ
  pub labels : List Label

-- with a number everything is as it was; with 0 the pointer is the fresh machine's
unfoldable pub loaded_by : Load → List ℕ → List Label → LoadCall
loaded_by (rejects n) insts labels = record { number = n; ip = 0; count = 0; insts = insts; labels = labels }
loaded_by (accepts l) insts labels =
    record {
      number = 0;
      ip = l.ip;
      count = count_of l;
      insts = insts_left (accepts l) insts;
      labels = labels_after (accepts l) labels;
    }

unfoldable pub load_call : (image insts : List ℕ) → List Label → LoadCall
load_call image insts labels = loaded_by (load_of image insts labels) insts labels

-- the answer of crate loader, as numbers
abbrev pub numbers_of : Result Accepted Refusal → LoadAnswer
numbers_of (Err e) = record { number = number_of e; ip = 0; count = 0 }
numbers_of (Ok a) = record { number = 0; ip = a.ip; count = a.count }
