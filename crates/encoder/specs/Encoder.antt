-- The code's answers, by the encoder of document 01.
use Rattle.std.specs.Prelude.{ℕ, ◌+◌, ◌<◌, ◌≡◌, List, Option, Some, None, Result, Ok, Err}
use Rattle.machine.specs.Encode.{Encoded, unencoded, encoded, encode, encoded_size, output_after}
use Rattle.tables.specs.Tables.{insts_of}
use Rattle.encoder.specs.declared.EncodeError.{EncodeError}
use Rattle.encoder.specs.declared.EncodeError.TheVariants.{IllFormed, NoRoom}

-- the numbers of the code's errors
abbrev pub number_of : EncodeError → ℕ
number_of IllFormed = 9
number_of NoRoom = 10

-- the number or the value of each case of the code's answer
unfoldable pub means : Result ℕ EncodeError → Encoded
means (Ok n) = encoded n
means (Err e) = unencoded (number_of e)

-- what is left of a room behind records of n bytes, or that they passed it
unfoldable pub Fits : (room n : ℕ) → Option ℕ → Type 0
Fits room n (Some left) = left + n ≡ room
Fits room n None = room < n

-- what to_binary answers and leaves in the output, and what encoded_size answers: their contracts
pub record ToBinary (image insts : List ℕ) (count : ℕ) (out : List ℕ) (r : Result ℕ EncodeError) (out' : List ℕ) : Type 0 where
  pub answers : means r ≡ encode image (insts_of insts) count out
  pub output_is : out' ≡ output_after (encode image (insts_of insts) count out) image (insts_of insts) count out

abbrev pub EncodedSize : (image insts : List ℕ) → ℕ → Result ℕ EncodeError → Type 0
EncodedSize image insts count r = means r ≡ encoded_size image (insts_of insts) count
