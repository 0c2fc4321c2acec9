-- What the call answers and leaves, by the load of document 01.
use Rattle.std.specs.Prelude.{ℕ, ◌≡◌, Result, Ok, Err, List, [], length}
use Rattle.std.proofs.lemmas.List.Edits.{sets}
use Rattle.machine.specs.declared.Label.{Label}
use Rattle.machine.specs.declared.Machine.{Machine}
use Rattle.machine.specs.Load.{Loaded, Load, rejects, accepts, loads, load, fresh, count_of}
use Rattle.tables.specs.Tables.{insts_of, labels_of, inst_bytes, label_bytes}
use Rattle.loader.specs.declared.refusal.Refusal.{Refusal}
use Rattle.loader.specs.declared.Accepted.{Accepted}
use Rattle.loader.specs.declared.Checked.{Checked}
use Rattle.loader.specs.Refusals.{number_of, numbered}

-- the answer: a number, or the fresh machine and the count
pub data Reply : Type 0 where
  refuses : ℕ → Reply
  starts : Machine → ℕ → Reply

unfoldable pub reply_of : Load → Reply
reply_of (rejects n) = refuses n
reply_of (accepts l) = starts (fresh l) (count_of l)

-- a fresh machine has its pointer from the image, and nothing else
unfoldable pub fresh_at : ℕ → Machine
fresh_at ip = fresh (record { insts = []; labels = []; ip = ip })

-- the code's answer
unfoldable pub means : Result Accepted Refusal → Reply
means (Err e) = refuses (number_of e)
means (Ok a) = starts (fresh_at a.ip) a.count

-- the code's answer, with the number of label records, for what an image gives
unfoldable pub checked_of : Load → Result Checked ℕ
checked_of (rejects n) = Err n
checked_of (accepts l) = Ok (record { accepted = record { ip = l.ip; count = count_of l }; labels = length l.labels })

-- and without it
unfoldable pub accepted_of : Load → Result Accepted ℕ
accepted_of (rejects n) = Err n
accepted_of (accepts l) = Ok (record { ip = l.ip; count = count_of l })

-- a lent table's bytes after the call: a refusal writes nothing; the records from the front on, what is past them as it was
unfoldable pub insts_left : Load → List ℕ → List ℕ
insts_left (rejects n) insts = insts
insts_left (accepts l) insts = sets insts 0 (inst_bytes l.insts)

unfoldable pub labels_left : Load → List ℕ → List ℕ
labels_left (rejects n) labels = labels
labels_left (accepts l) labels = sets labels 0 (label_bytes l.labels)

-- the same of a label table of any slots, of which label records take these
unfoldable pub slots_left : {B : Type 0} → (List Label → List B) → Load → List B → List B
slots_left slots (rejects n) labels = labels
slots_left slots (accepts l) labels = sets labels 0 (slots l.labels)

-- an image that is accepted, with this count
pub record Accepts (image : List ℕ) (count : ℕ) : Type 0 where
  pub loaded : Loaded
  pub is : loads image ≡ accepts loaded
  pub count_is : count ≡ count_of loaded

-- what a load answers, and leaves in the instruction table
pub record LoadInsts (given : Load) (insts : List ℕ) (r : Result Checked Refusal) (insts' : List ℕ) : Type 0 where
  pub answers : numbered r ≡ checked_of given
  pub insts_are : insts' ≡ insts_left given insts

-- and in both tables
pub record LoadTables {B : Type 0} (slots : List Label → List B) (given : Load) (insts : List ℕ) (labels : List B) (r : Result Accepted Refusal) (insts' : List ℕ) (labels' : List B) : Type 0 where
  pub answers : numbered r ≡ accepted_of given
  pub insts_are : insts' ≡ insts_left given insts
  pub labels_are : labels' ≡ slots_left slots given labels

-- the load of document 01 with tables that are lent as bytes
abbrev pub load_of : List ℕ → List ℕ → List ℕ → Load
load_of image insts labels = load image (insts_of insts) (labels_of labels)

-- what a call answers and leaves in the two tables
pub record FromBinary (image insts labels : List ℕ) (r : Result Accepted Refusal) (insts' labels' : List ℕ) : Type 0 where
  pub answers : means r ≡ reply_of (load_of image insts labels)
  pub insts_are : insts' ≡ insts_left (load_of image insts labels) insts
  pub labels_are : labels' ≡ labels_left (load_of image insts labels) labels
