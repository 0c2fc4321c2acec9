-- Document 02, request b, of the definitions: the room that an accepted image takes when it is written out, and what loading and writing it again give.
-- Definitions only.
use Rattle.std.specs.Prelude.{ℕ, suc, ◌+◌, ◌-◌, ◌^◌, ◌≤◌, ◌<◌, ◌≡◌, true, cond, List, ◌++◌, leb, length, get_or, drop}
use Rattle.inst.specs.declared.Inst.{Inst}
use Rattle.inst.specs.Forms.{name, form_of, within}
use Rattle.inst.specs.Records.{Bytes, part}
use Rattle.inst_decode.specs.Decode.{reads, from_bytes}
use Rattle.machine.specs.declared.Label.{Label}
use Rattle.machine.specs.Limits.{image_limit, inst_limit, label_records}
use Rattle.machine.specs.Load.{halt, start_name, Loaded, Load, rejects, accepts, load, insts_after, count_of}
use Rattle.machine.specs.Encode.{encoded, unencoded, in_room, encode, encoded_size, output_after}
use Rattle.machine.specs.Statements.{DefinesLast}

-- ---- where the instructions of an image are

-- Instruction number n begins at byte `at`: number 0 at byte 0, each other one where the one before ends. An image of n instructions ends where number n
-- would begin
pub data Begins (image : List ℕ) : ℕ → ℕ → Type 0 where
  first : Begins image 0 0
  next : (n at size : ℕ) (i : Inst) → Begins image n at → from_bytes image at ≡ reads i size → Begins image (suc n) (at + size)

-- The last instruction is HALT: an instruction begins with the last byte, which is 69. A last byte 69 alone isn't enough: it may belong to a name, a cell or a
-- stream
pub record EndsWithHalt (image : List ℕ) : Type 0 where
  pub index : ℕ
  pub at : ℕ
  pub begins : Begins image index at
  pub is_halt_lem : get_or image at 0 ≡ 69
  pub is_last : suc at ≡ length image

-- ---- the room

-- For an image of which so many instructions were loaded: its own length where its last instruction is HALT, and then all of them are the image's. One byte
-- more where it isn't, exactly then: they are the image's and one more, the appended HALT
pub data RoomIs (image : List ℕ) (count : ℕ) : ℕ → Type 0 where
  own_length : EndsWithHalt image → Begins image count (length image) → RoomIs image count (length image)
  one_more : (EndsWithHalt image → ⊥) → (n : ℕ) → Begins image n (length image) → count ≡ suc n → RoomIs image count (suc (length image))

-- the loaded instructions: each one of the image is the record with its number, and where there is one behind them it is HALT
pub record RecordsAre (image : List ℕ) (insts : List Inst) : Type 0 where
  pub own : (n at size : ℕ) (i : Inst) → Begins image n at → from_bytes image at ≡ reads i size → (n < length insts) × (get_or insts n halt ≡ i)
  pub appended : (n : ℕ) → Begins image n (length image) → n < length insts → get_or insts n halt ≡ halt

-- an output afterwards: the bytes and the rest as it was, or as it was where it is shorter than they are
abbrev pub written_into : List ℕ → List ℕ → List ℕ
written_into written out = cond (leb (length written) (length out)) (written ++ drop (length written) out) out

-- the encoder's answer, its output, and the room asked for before, with the instruction table as a load of l leaves it, whatever it held, and the load's
-- count: never 9, and 10 exactly where the output is shorter than what is written
pub record Writes (image : List ℕ) (insts : List Inst) (l : Loaded) (written : List ℕ) : Type 0 where
  pub answer_is : (out : List ℕ) → encode image (insts_after (accepts l) insts) (count_of l) out ≡ cond (leb (length written) (length out)) (encoded (length written)) (unencoded 10)
  pub output_is : (out : List ℕ) → output_after (encode image (insts_after (accepts l) insts) (count_of l) out) image (insts_after (accepts l) insts) (count_of l) out ≡ written_into written out
  pub size_is : encoded_size image (insts_after (accepts l) insts) (count_of l) ≡ encoded (length written)

-- ---- which bytes differ

-- Byte k of the image is written as b: a first byte 27 as 46; bytes 7 and 8 of an instruction with a name, counted from 0, which are the two highest of its
-- length field, as 0. Their bits are ignored when it is read, or are the sign of a length 0
pub data Changes (image : List ℕ) : ℕ → ℕ → Type 0 where
  dump : (n at : ℕ) → Begins image n at → get_or image at 0 ≡ 27 → Changes image at 46
  high_byte : (n at j : ℕ) → Begins image n at → form_of (get_or image at 0) ≡ name → within 7 8 j ≡ true → Changes image (at + j) 0

-- all others are the image's
pub record BytesKept (image written : List ℕ) : Type 0 where
  pub changed : (k b : ℕ) → Changes image k b → get_or written k 0 ≡ b
  pub others : (k : ℕ) → k < length image → ((b : ℕ) → Changes image k b → ⊥) → get_or written k 0 ≡ get_or image k 0

-- a record's name is the same bytes in both
abbrev pub SameName : List ℕ → List ℕ → Inst → Type 0
SameName image written i = part written i.start i.len ≡ part image i.start i.len

-- ---- together

-- what was written, loaded again: what the image gave, or 1 where it is too long
abbrev pub loaded_again : Loaded → List ℕ → Load
loaded_again l written = cond (leb (length written) image_limit) (accepts l) (rejects 1)

-- an image that was loaded as l: what it is written as, and what that gives
pub record Rewritten (image : List ℕ) (insts : List Inst) (l : Loaded) : Type 0 where
  pub written : List ℕ
  pub records_are : RecordsAre image l.insts
  pub room : RoomIs image (count_of l) (length written)
  pub writes : Writes image insts l written
  pub kept : BytesKept image written
  pub names_are : (k : ℕ) → k < count_of l → SameName image written (get_or l.insts k halt)
  -- it ends with HALT and all loaded instructions are its own: nothing is appended to it. And `_start` is defined last where it was
  pub nothing_appended : EndsWithHalt written × Begins written (count_of l) (length written)
  pub start_is : DefinesLast written l.insts start_name l.ip
  -- 16,385 bytes are written exactly for an image of 16,384 to which HALT is appended
  pub too_long : image_limit < length written → (length image ≡ image_limit) × (EndsWithHalt image → ⊥)
  pub longest : length image ≡ image_limit → (EndsWithHalt image → ⊥) → length written ≡ suc image_limit
  -- the same instruction records, label records and pointer, so the same count, whatever tables are lent, if they are large enough
  pub loads_again : (insts₂ : List Inst) (labels₂ : List Label) → inst_limit ≤ length insts₂ → label_records ≤ length labels₂ → load written insts₂ labels₂ ≡ loaded_again l written
  -- and it is written as the same bytes, whatever table was lent to that load
  pub writes_again : length written ≤ image_limit → (insts₂ : List Inst) → inst_limit ≤ length insts₂ → Writes written insts₂ l written

-- of every accepted image, whatever the lent tables held
abbrev pub ImagesAreRewritten : Type 0
ImagesAreRewritten =
    (image : List ℕ) (insts : List Inst) (labels : List Label) (l : Loaded) → Bytes image → load image insts labels ≡ accepts l
    → Rewritten image insts l

-- of every table and count, also ones that no load left: what is asked for is what an encoding then needs, a number included
abbrev pub AskedIsNeeded : Type 0
AskedIsNeeded =
    (image : List ℕ) (insts : List Inst) (count : ℕ) (out : List ℕ) → length out ≤ 2 ^ 64 - 1
    → encode image insts count out ≡ in_room (length out) (encoded_size image insts count)

pub record Theorems : Type 0 where
  pub rewritten : ImagesAreRewritten
  pub asked : AskedIsNeeded
