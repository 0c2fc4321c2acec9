-- Decoding one instruction (Inst::from_bytes), as document 01 has it.
use Rattle.std.specs.Prelude.{ℕ, ◌+◌, ◌%◌, ◌^◌, Bool, cond, ◌&&◌, not, List, eqb, ltb, leb, length, get_or, Result, Ok, Err}
use Rattle.std.specs.Borrow.{Bor}
use Rattle.word.specs.Words.{word}
use Rattle.inst.specs.declared.Inst.{Inst}
use Rattle.inst_decode.specs.declared.Decoded.{Decoded}
use Rattle.inst_decode.specs.declared.DecodeError.{DecodeError}
use Rattle.inst_decode.specs.declared.DecodeError.TheVariants.{Undefined, PastEnd, BadName}
use Rattle.inst.specs.Forms.{Form, none, eight, one, name, undefined, form_of}
use Rattle.inst.specs.Records.{plain, named, name_ok, part}

-- the answer: a number, or the record and its size
pub data Answer : Type 0 where
  refused : ℕ → Answer
  reads : Inst → ℕ → Answer

-- the number of each of the code's errors
abbrev pub number_of : DecodeError → ℕ
number_of Undefined = 2
number_of PastEnd = 3
number_of BadName = 4

-- the code's answer
abbrev pub means : Result Decoded DecodeError → Answer
means (Err e) = refused (number_of e)
means (Ok d) = reads d.inst d.size

-- the code's answer for a name that begins at `start`
abbrev pub means_name : ℕ → ℕ → Result (Bor (List ℕ)) DecodeError → Answer
means_name op start (Err e) = refused (number_of e)
means_name op start (Ok bytes) = reads (named op start (length bytes.now)) (9 + length bytes.now)

-- byte 27 decodes as FDMP, 46
unfoldable pub type_of : ℕ → ℕ
type_of op = cond (eqb op 27) 46 op

-- the length field of a name: the low 48 bits are its magnitude, bits 48 to 62 are ignored
abbrev pub magnitude : ℕ → ℕ
magnitude field = field % 2 ^ 48

-- bit 63 is set and the magnitude isn't 0
unfoldable pub is_negative : ℕ → Bool
is_negative field = leb (2 ^ 63) field && not (eqb (magnitude field) 0)

-- 3 where b holds: operand or name past the end, or the length sign
abbrev pub past_end : Bool → Answer → Answer
past_end b rest = cond b (refused 3) rest

-- the name of the instruction at `at`, whose length field is `field`: 3, then 4
unfoldable pub read_name : List ℕ → ℕ → ℕ → ℕ → Answer
read_name image at op field =
    let start = at + 9 in
    let len = magnitude field in
    past_end (is_negative field)
    (past_end (ltb (length image) (start + len))
    (cond (name_ok (part image start len)) (reads (named op start len) (9 + len)) (refused 4)))

-- the operand of the instruction at `at`, by its form
unfoldable pub read_operand : List ℕ → ℕ → ℕ → Form → Answer
read_operand image at op none = reads (plain op 0) 1
read_operand image at op eight = past_end (ltb (length image) (at + 9)) (reads (plain op (word image (at + 1))) 9)
read_operand image at op one = past_end (ltb (length image) (at + 2)) (reads (plain (type_of op) (get_or image (at + 1) 0)) 2)
read_operand image at op name = past_end (ltb (length image) (at + 9)) (read_name image at op (word image (at + 1)))
read_operand image at op undefined = refused 2

-- from_bytes at the offset `at`: 2 where there is no byte
unfoldable pub from_bytes : List ℕ → ℕ → Answer
from_bytes image at =
    let op = get_or image at 0 in
    cond (leb (length image) at) (refused 2) (read_operand image at op (form_of op))
