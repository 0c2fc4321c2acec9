-- Document 02, request b, of a host's calls: mm_load, mm_encode and mm_encoded_size by their equations, and the load over label records. Definitions only.
use Rattle.std.specs.Prelude.{ℕ, ◌≤◌, ◌≡◌, cond, List, leb, length, take}
use Rattle.inst.specs.Records.{Bytes}
use Rattle.machine.specs.declared.Label.{Label}
use Rattle.machine.specs.Limits.{image_limit, inst_limit, label_records}
use Rattle.machine.specs.Load.{Loaded, accepts}
use Rattle.tables.specs.Tables.{insts_of, labels_of}
use Rattle.loader.specs.Loading.{load_of, insts_left}
use Rattle.machine_bytes.specs.Layout.{machine_size}
use Rattle.mm_host.specs.Calls as host
use Rattle.label_loader.specs.Loading as records
use Rattle.rewritten.specs.Rewritten.{written_into, loaded_again, Rewritten}

-- both calls of an encoding of a table: these bytes, which are then the output's front, or 10 where the output is shorter than they are
pub record HostEncodes (image insts : List ℕ) (count : ℕ) (written : List ℕ) : Type 0 where
  pub asks : host.size_call image insts count ≡ record { number = 0; size = length written }
  pub writes : (out : List ℕ) → let fits = leb (length written) (length out) in
      host.encode_call image insts count out ≡ record { number = cond fits 0 10; size = cond fits (length written) 0; out = written_into written out }
  pub front_is : (out : List ℕ) → length written ≤ length out → take (length written) (host.encode_call image insts count out).out ≡ written

-- A load of l that left the instruction table insts', which was insts, and answered this count: all that the definitions say of it, of both calls. What was
-- written is written as the same bytes, with the table of a load of it, whatever it held
pub record HostWritten (image insts insts' : List ℕ) (count : ℕ) (l : Loaded) : Type 0 where
  pub rewritten : Rewritten image (insts_of insts) l
  pub encodes : HostEncodes image insts' count rewritten.written
  pub encodes_again : (insts₂ : List ℕ) → inst_limit ≤ length (insts_of insts₂) → length rewritten.written ≤ image_limit
      → HostEncodes rewritten.written (insts_left (accepts l) insts₂) count rewritten.written

-- An accepted load of mm_load, which left r. A load of what is then written into other bytes, whatever they hold, fills in the same records and machine and
-- answers the same count, or it answers 1
pub record HostRewritten (image insts labels machine : List ℕ) (r : host.LoadCall) : Type 0 where
  pub loaded : Loaded
  pub accepted : load_of image insts labels ≡ accepts loaded
  pub leaves : r ≡ host.loaded_by (accepts loaded) insts labels machine
  pub wrote : HostWritten image insts r.insts r.count loaded
  pub loads_again : (insts₂ labels₂ machine₂ : List ℕ) → inst_limit ≤ length (insts_of insts₂) → label_records ≤ length (labels_of labels₂) → length machine₂ ≡ machine_size
      → host.load_call wrote.rewritten.written insts₂ labels₂ machine₂ ≡ host.loaded_by (loaded_again loaded wrote.rewritten.written) insts₂ labels₂ machine₂

abbrev pub HostCallsAreRewritten : Type 0
HostCallsAreRewritten =
    (image insts labels machine : List ℕ) (r : host.LoadCall)
    → Bytes image
    → host.load_call image insts labels machine ≡ r
    → r.number ≡ 0
    → HostRewritten image insts labels machine r

-- the same of mm_load_labels, where the label table is lent as records and the pointer is answered
pub record RecordsRewritten (image insts : List ℕ) (labels : List Label) (r : records.LoadCall) : Type 0 where
  pub loaded : Loaded
  pub accepted : records.load_of image insts labels ≡ accepts loaded
  pub leaves : r ≡ records.loaded_by (accepts loaded) insts labels
  pub wrote : HostWritten image insts r.insts r.count loaded
  pub loads_again : (insts₂ : List ℕ) (labels₂ : List Label) → inst_limit ≤ length (insts_of insts₂) → label_records ≤ length labels₂
      → records.load_call wrote.rewritten.written insts₂ labels₂ ≡ records.loaded_by (loaded_again loaded wrote.rewritten.written) insts₂ labels₂

abbrev pub RecordCallsAreRewritten : Type 0
RecordCallsAreRewritten =
    (image insts : List ℕ) (labels : List Label) (r : records.LoadCall)
    → Bytes image
    → records.load_call image insts labels ≡ r
    → r.number ≡ 0
    → RecordsRewritten image insts labels r

pub record HostTheorems : Type 0 where
  pub by_bytes : HostCallsAreRewritten
  pub by_records : RecordCallsAreRewritten
