-- Document 02, request b, of the calls: what the contracts of a load, an encoding, a load of what was written and an encoding of that say together.
-- Definitions only.
use Rattle.std.specs.Prelude.{ℕ, ◌≤◌, ◌≡◌, cond, Result, Ok, Err, List, leb, length, take}
use Rattle.inst.specs.Records.{Bytes}
use Rattle.machine.specs.Limits.{image_limit, inst_limit, label_records}
use Rattle.machine.specs.Load.{Loaded, accepts, count_of}
use Rattle.tables.specs.Tables.{insts_of, labels_of}
use Rattle.loader.specs.declared.Accepted.{Accepted}
use Rattle.loader.specs.declared.refusal.Refusal.{Refusal}
use Rattle.loader.specs.declared.refusal.Refusal.TheVariants.{ImageTooLong}
use Rattle.loader.specs.Loading.{load_of, insts_left, labels_left, FromBinary}
use Rattle.encoder.specs.declared.EncodeError.{EncodeError}
use Rattle.encoder.specs.declared.EncodeError.TheVariants.{NoRoom}
use Rattle.encoder.specs.Encoder.{ToBinary, EncodedSize}
use Rattle.rewritten.specs.Rewritten.{written_into, loaded_again, Rewritten}

-- these bytes are written, and are then the output's front; or 10 is answered where the output is shorter than they are
pub record WritesOut (written out : List ℕ) (r : Result ℕ EncodeError) (out' : List ℕ) : Type 0 where
  pub answer_is : r ≡ cond (leb (length written) (length out)) (Ok (length written)) (Err NoRoom)
  pub output_is : out' ≡ written_into written out
  pub front_is : length written ≤ length out → take (length written) out' ≡ written

-- both calls of an encoding of a table write these bytes
pub record Encodes (image insts : List ℕ) (count : ℕ) (written : List ℕ) : Type 0 where
  pub asks : (r : Result ℕ EncodeError) → EncodedSize image insts count r → r ≡ Ok (length written)
  pub writes : (out : List ℕ) (r : Result ℕ EncodeError) (out' : List ℕ) → ToBinary image insts count out r out' → WritesOut written out r out'

-- A load of what was written: 1 where it is too long, and nothing is stored. Else the answer is the first load's, the same records are stored from each table's
-- front on, and an encoding with these writes the same bytes
pub record LoadsAgain (l : Loaded) (ip count : ℕ) (written insts labels : List ℕ) (r : Result Accepted Refusal) (insts' labels' : List ℕ) : Type 0 where
  pub answer_is : r ≡ cond (leb (length written) image_limit) (Ok (record { ip = ip; count = count })) (Err ImageTooLong)
  pub insts_are : insts' ≡ insts_left (loaded_again l written) insts
  pub labels_are : labels' ≡ labels_left (loaded_again l written) labels
  pub encodes_again : length written ≤ image_limit → Encodes written insts' count written

-- An accepted load, with its pointer and count, that left the instruction table insts': all that the definitions say of what it loaded, of these calls. The
-- second load gets tables that are large enough, whatever they hold
pub record CallsRewritten (image insts labels : List ℕ) (ip count : ℕ) (insts' : List ℕ) : Type 0 where
  pub loaded : Loaded
  pub accepted : load_of image insts labels ≡ accepts loaded
  pub ip_is : ip ≡ loaded.ip
  pub count_is : count ≡ count_of loaded
  pub rewritten : Rewritten image (insts_of insts) loaded
  pub encodes : Encodes image insts' count rewritten.written
  pub loads_again : (insts₂ labels₂ : List ℕ) (r : Result Accepted Refusal) (insts₂' labels₂' : List ℕ) → inst_limit ≤ length (insts_of insts₂) → label_records ≤ length (labels_of labels₂)
      → FromBinary rewritten.written insts₂ labels₂ r insts₂' labels₂' → LoadsAgain loaded ip count rewritten.written insts₂ labels₂ r insts₂' labels₂'

abbrev pub CallsAreRewritten : Type 0
CallsAreRewritten =
    (image insts labels : List ℕ) (ip count : ℕ) (insts' labels' : List ℕ)
    → Bytes image
    → FromBinary image insts labels (Ok (record { ip = ip; count = count })) insts' labels'
    → CallsRewritten image insts labels ip count insts'
