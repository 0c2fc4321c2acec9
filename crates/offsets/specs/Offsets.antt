-- Document 02, request c: where each instruction's bytes are in what the encoder writes. Definitions only.
use Rattle.std.specs.Prelude.{ℕ, suc, ◌+◌, ◌-◌, ◌^◌, ◌<◌, ◌≤◌, ◌≡◌, true, Result, Ok, List, [], ◌∷◌, length, get_or, take, drop}
use Rattle.std.proofs.Math.Seq.{slice}
use Rattle.inst.specs.declared.Inst.{Inst}
use Rattle.inst.specs.Records.{well_formed}
use Rattle.inst_encode.specs.Encode.{as_bytes, inst_length}
use Rattle.machine.specs.Load.{halt}
use Rattle.machine.specs.Encode.{encoded, size_of, encode, output_after}
use Rattle.tables.specs.Tables.{insts_of}
use Rattle.encoder.specs.declared.EncodeError.{EncodeError}
use Rattle.encoder.specs.Encoder.{ToBinary}
use Rattle.mm_host.specs.Calls.{EncodeCall, encode_call, size_call}

-- the sum of instructions' lengths
unfoldable pub sum_of_lengths : List Inst → ℕ
sum_of_lengths [] = 0
sum_of_lengths (i ∷ is) = inst_length i + sum_of_lengths is

-- an instruction's offset: the sum of the lengths before it
abbrev pub offset : List Inst → ℕ → ℕ
offset insts k = sum_of_lengths (take k insts)

-- instruction k of a table. HALT stands for one past it; where it is cited the table has instruction k
abbrev pub nth_inst : List Inst → ℕ → Inst
nth_inst insts k = get_or insts k halt

-- a table's first `count` instructions can be written: it has so many, and each is well formed
pub record CanBeWritten (image : List ℕ) (insts : List Inst) (count : ℕ) : Type 0 where
  pub within : count ≤ length insts
  pub well : (k : ℕ) → k < count → well_formed image (nth_inst insts k) ≡ true

-- The output out' that was out, where `size` bytes were answered for a table's first `count` instructions
pub record AtOffsets (image : List ℕ) (insts : List Inst) (count size : ℕ) (out out' : List ℕ) : Type 0 where
  -- an instruction's length, by its form, is how many bytes it is written in
  pub length_is : (k : ℕ) → k < count → length (as_bytes image (nth_inst insts k)) ≡ inst_length (nth_inst insts k)
  -- instruction k's bytes are the output's part that begins at its offset and is as long
  pub bytes_are : (k : ℕ) → k < count → slice (offset insts k) (offset insts k + inst_length (nth_inst insts k)) out' ≡ as_bytes image (nth_inst insts k)
  -- the first part begins with the output, each other one where the one before ends, and the last ends where the size says
  pub first_at : offset insts 0 ≡ 0
  pub next_at : (k : ℕ) → k < count → offset insts (suc k) ≡ offset insts k + inst_length (nth_inst insts k)
  pub ends_at : offset insts count ≡ size
  -- behind it the output is as it was
  pub rest_is : drop size out' ≡ drop size out

-- An encoding with the output out, out' afterwards, that answers a size where `answers` says so: exactly where its instructions can be written and their lengths
-- together are no more than the output has. Where it answers none, nothing is written
pub record WritesAtOffsets (image : List ℕ) (insts : List Inst) (count : ℕ) (out : List ℕ) (answers : ℕ → Type 0) (out' : List ℕ) : Type 0 where
  pub answers_sum : CanBeWritten image insts count → offset insts count ≤ length out → answers (offset insts count)
  pub only_then : (size : ℕ) → answers size → CanBeWritten image insts count × (offset insts count ≤ length out)
  pub at_offsets : (size : ℕ) → answers size → AtOffsets image insts count size out out'
  pub refused_is : ((size : ℕ) → answers size → ⊥) → out' ≡ out

-- of every image, table, count and output, also of a table that no load filled
abbrev pub InstructionsAreAtOffsets : Type 0
InstructionsAreAtOffsets =
    (image : List ℕ) (insts : List Inst) (count : ℕ) (out : List ℕ) → let e = encode image insts count out in
    WritesAtOffsets image insts count out (λ size. e ≡ encoded size) (output_after e image insts count out)

-- the size, before any room is tested
abbrev pub SizeIsSum : Type 0
SizeIsSum = (image : List ℕ) (insts : List Inst) (count : ℕ) → CanBeWritten image insts count → size_of image insts count ≡ encoded (offset insts count)

-- of to_binary, by its contract
abbrev pub CallsWrite : Type 0
CallsWrite =
    (image insts : List ℕ) (count : ℕ) (out : List ℕ) (r : Result ℕ EncodeError) (out' : List ℕ) → ToBinary image insts count out r out'
    → WritesAtOffsets image (insts_of insts) count out (λ size. r ≡ Ok size) out'

-- of mm_encode, by its equation
abbrev pub HostCallsWrite : Type 0
HostCallsWrite =
    (image insts : List ℕ) (count : ℕ) (out : List ℕ) (r : EncodeCall) → encode_call image insts count out ≡ r
    → WritesAtOffsets image (insts_of insts) count out (λ size. (r.number ≡ 0) × (r.size ≡ size)) r.out

-- and of mm_encoded_size, asked for the size of the first k instructions: it answers where instruction k begins
abbrev pub HostCallsAsk : Type 0
HostCallsAsk =
    (image insts : List ℕ) (k : ℕ) → CanBeWritten image (insts_of insts) k → offset (insts_of insts) k ≤ 2 ^ 64 - 1
    → size_call image insts k ≡ record { number = 0; size = offset (insts_of insts) k }

pub record Theorems : Type 0 where
  pub at_offsets : InstructionsAreAtOffsets
  pub size_is_sum : SizeIsSum
  pub calls : CallsWrite
  pub host_calls : HostCallsWrite
  pub host_asks : HostCallsAsk
