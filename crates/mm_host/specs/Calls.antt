-- What each of the host's calls answers and leaves in every byte that it is lent, by crate machine's load, run and encode.
use Rattle.std.specs.Prelude.{ℕ, cond, List, Result as Answered, Ok, Err, eqb, length}
use Rattle.machine.specs.Load.{Load, rejects, accepts, fresh, count_of}
use Rattle.machine.specs.Run.{Result}
use Rattle.machine.specs.Encode.{Encoded, unencoded, encoded, encode, encoded_size, output_after}
use Rattle.tables.specs.Tables.{insts_of, program}
use Rattle.loader.specs.declared.Accepted.{Accepted}
use Rattle.loader.specs.declared.refusal.Refusal.{Refusal}
use Rattle.loader.specs.Refusals.{number_of}
use Rattle.loader.specs.Loading.{load_of, insts_left, labels_left}
use Rattle.run.specs.Runs.{run_bytes}
use Rattle.machine.specs.Ending.{ending_number}
use Rattle.mm_host.specs.declared.Encoded as answer
use Rattle.mm_host.specs.declared.Loaded as answer_of_load
use Rattle.machine_bytes.specs.Layout.{machine_size, is_machine, machine_of, machine_bytes}

-- what is lent is no machine; a number of our own
abbrev pub no_machine : ℕ
no_machine = 50

-- load: the answer, both tables and the machine's bytes afterwards
pub record LoadCall : Type 0 where
  pub number : ℕ
  pub count : ℕ
  pub insts : List ℕ
  pub labels : List ℕ
  pub machine : List ℕ

-- the answer of crate loader, as numbers
abbrev pub loaded_numbers : Answered Accepted Refusal → answer_of_load.Loaded
loaded_numbers (Ok a) = record { number = 0; count = a.count }
loaded_numbers (Err e) = record { number = number_of e; count = 0 }

-- with a number nothing is written
abbrev pub not_loaded : ℕ → List ℕ → List ℕ → List ℕ → LoadCall
not_loaded n insts labels machine = record { number = n; count = 0; insts = insts; labels = labels; machine = machine }

unfoldable pub loaded_by : Load → List ℕ → List ℕ → List ℕ → LoadCall
loaded_by (rejects n) insts labels machine = not_loaded n insts labels machine
loaded_by (accepts l) insts labels machine =
    record {
      number = 0;
      count = count_of l;
      insts = insts_left (accepts l) insts;
      labels = labels_left (accepts l) labels;
      machine = machine_bytes (fresh l);
    }

-- 50 first: a slice that isn't as long as a machine
unfoldable pub load_call : (image insts labels machine : List ℕ) → LoadCall
load_call image insts labels machine =
    cond (eqb (length machine) machine_size) (loaded_by (load_of image insts labels) insts labels machine) (not_loaded no_machine insts labels machine)

-- run: the answer, the machine's bytes and the buffer's afterwards
pub record RunCall : Type 0 where
  pub ending : ℕ
  pub steps : ℕ
  pub dumped : ℕ
  pub machine : List ℕ
  pub dumps : List ℕ

unfoldable pub ran_by : Result → RunCall
ran_by r =
    record { ending = ending_number r.ending; steps = r.steps; dumped = r.dumped; machine = machine_bytes r.machine; dumps = r.buffer }

-- 50 first: bytes that are no machine's
unfoldable pub run_call : (image insts labels : List ℕ) → ℕ → List ℕ → ℕ → List ℕ → RunCall
run_call image insts labels count machine limit dumps =
    cond (is_machine machine) (ran_by (run_bytes (program image insts labels count) limit dumps (machine_of machine)))
    (record { ending = no_machine; steps = 0; dumped = 0; machine = machine; dumps = dumps })

-- encode: the answer and the output afterwards
pub record EncodeCall : Type 0 where
  pub number : ℕ
  pub size : ℕ
  pub out : List ℕ

-- the answer's numbers: a number, or 0 and the size
unfoldable pub encoded_numbers : Encoded → answer.Encoded
encoded_numbers (unencoded n) = record { number = n; size = 0 }
encoded_numbers (encoded size) = record { number = 0; size = size }

unfoldable pub encode_call : List ℕ → List ℕ → ℕ → List ℕ → EncodeCall
encode_call image insts count out =
    let e = encode image (insts_of insts) count out in
    record { number = (encoded_numbers e).number; size = (encoded_numbers e).size; out = output_after e image (insts_of insts) count out }

-- the room that this call needs: the answer alone, as nothing is lent to be written
unfoldable pub size_call : List ℕ → List ℕ → ℕ → answer.Encoded
size_call image insts count = encoded_numbers (encoded_size image (insts_of insts) count)
