-- What images load to and are written as, by `loads` and `bytes_of_all`, and what was written once more (document 02, request b). Assumes nothing.
use Prim.Native.Nat.{ℕ}
use mathlib.Core.Path.{◌≡◌, refl}
use mathlib.Core.List.{List, [], ◌∷◌, ◌++◌}
use Rattle.word.specs.Words.{little_endian}
use Rattle.inst.specs.Forms.{form_of, has_none, has_eight, has_one, has_name}
use Rattle.inst.specs.Records.{name_ok, same}
use Rattle.inst_decode.specs.Decode as decode
use Rattle.inst_encode.specs.Encode.{bytes_of, operand_bytes, as_bytes}
use Rattle.machine.specs.Load.{linked, scan_one, and_then, scan, last_of, any_native, last_is_halt, closed, Load, rejects, accepts, checked, entered, finished, loads}
use Rattle.machine.specs.Encode.{bytes_of_all}

-- LABEL _start
start : List ℕ
start = 21 ∷ 6 ∷ 0 ∷ 0 ∷ 0 ∷ 0 ∷ 0 ∷ 0 ∷ 0 ∷ 0x5F ∷ 0x73 ∷ 0x74 ∷ 0x61 ∷ 0x72 ∷ 0x74 ∷ []

-- an image's program written out
rewritten : List ℕ → Load → List ℕ
rewritten image (rejects n) = []
rewritten image (accepts l) = bytes_of_all image l.insts

-- what is behind the first LABEL, and what that is written as
record Case (rest written : List ℕ) : Type 0 where
  as_written : rewritten (start ++ rest) (loads (start ++ rest)) ≡ start ++ written
  as_loaded : loads (start ++ written) ≡ loads (start ++ rest)
  as_written_again : rewritten (start ++ written) (loads (start ++ written)) ≡ start ++ written

record Cases : Type 0 where
  -- HALT last
  halt : Case (69 ∷ []) (69 ∷ [])
  -- a last byte 69 that belongs to a name (JE), a cell (PUSH), a stream (FDMP): HALT is appended
  in_name : Case (12 ∷ 1 ∷ 0 ∷ 0 ∷ 0 ∷ 0 ∷ 0 ∷ 0 ∷ 0 ∷ 69 ∷ []) (12 ∷ 1 ∷ 0 ∷ 0 ∷ 0 ∷ 0 ∷ 0 ∷ 0 ∷ 0 ∷ 69 ∷ 69 ∷ [])
  in_cell : Case (1 ∷ 0 ∷ 0 ∷ 0 ∷ 0 ∷ 0 ∷ 0 ∷ 0 ∷ 69 ∷ []) (1 ∷ 0 ∷ 0 ∷ 0 ∷ 0 ∷ 0 ∷ 0 ∷ 0 ∷ 69 ∷ 69 ∷ [])
  in_stream : Case (46 ∷ 69 ∷ []) (46 ∷ 69 ∷ 69 ∷ [])
  -- a first byte 27 becomes 46, any other byte 27 stays
  dump : Case (27 ∷ 27 ∷ 69 ∷ []) (46 ∷ 27 ∷ 69 ∷ [])
  -- bits 48 to 62 of a length become 0, and so does the sign of a length 0
  ignored : Case (12 ∷ 1 ∷ 0 ∷ 0 ∷ 0 ∷ 0 ∷ 0 ∷ 255 ∷ 127 ∷ 97 ∷ 69 ∷ []) (12 ∷ 1 ∷ 0 ∷ 0 ∷ 0 ∷ 0 ∷ 0 ∷ 0 ∷ 0 ∷ 97 ∷ 69 ∷ [])
  sign : Case (12 ∷ 0 ∷ 0 ∷ 0 ∷ 0 ∷ 0 ∷ 0 ∷ 1 ∷ 128 ∷ 69 ∷ []) (12 ∷ 0 ∷ 0 ∷ 0 ∷ 0 ∷ 0 ∷ 0 ∷ 0 ∷ 0 ∷ 69 ∷ [])
  -- nothing behind a second `_start`, to which the pointer goes both times
  second : Case start (start ++ (69 ∷ []))

cases : Cases
unfolding start rewritten little_endian form_of has_none has_eight has_one has_name name_ok same decode.type_of decode.is_negative decode.read_name decode.read_operand decode.from_bytes bytes_of operand_bytes as_bytes linked scan_one and_then scan last_of any_native last_is_halt closed checked entered finished loads bytes_of_all
cases =
    record {
      halt = record { as_written = refl; as_loaded = refl; as_written_again = refl };
      in_name = record { as_written = refl; as_loaded = refl; as_written_again = refl };
      in_cell = record { as_written = refl; as_loaded = refl; as_written_again = refl };
      in_stream = record { as_written = refl; as_loaded = refl; as_written_again = refl };
      dump = record { as_written = refl; as_loaded = refl; as_written_again = refl };
      ignored = record { as_written = refl; as_loaded = refl; as_written_again = refl };
      sign = record { as_written = refl; as_loaded = refl; as_written_again = refl };
      second = record { as_written = refl; as_loaded = refl; as_written_again = refl };
    }

-- the pointer
pointer : Load → ℕ
pointer (rejects n) = 99
pointer (accepts l) = l.ip

at_second : (pointer (loads (start ++ start)) ≡ 1) × (pointer (loads (start ++ start ++ (69 ∷ []))) ≡ 1)
unfolding pointer start little_endian form_of has_none has_eight has_one has_name name_ok same decode.type_of decode.is_negative decode.read_name decode.read_operand decode.from_bytes linked scan_one and_then scan last_of any_native last_is_halt closed checked entered finished loads
at_second = (refl, refl)
