-- Encoding one record (as_bytes), as document 01 has it.
use Rattle.std.specs.Prelude.{ℕ, zero, suc, ◌+◌, ◌/◌, ◌%◌, List, [], ◌∷◌, ◌++◌}
use Rattle.inst.specs.declared.Inst.{Inst}
use Rattle.inst.specs.Forms.{Form, none, eight, one, name, undefined, form_of}
use Rattle.inst.specs.Records.{part}

-- the k lowest bytes of a number, the lowest first
unfoldable pub bytes_of : ℕ → ℕ → List ℕ
bytes_of zero n = []
bytes_of (suc k) n = n % 256 ∷ bytes_of k (n / 256)

-- the operand by its form; the length as a plain u64
unfoldable pub operand_bytes : List ℕ → Inst → Form → List ℕ
operand_bytes image i none = []
operand_bytes image i eight = bytes_of 8 i.val
operand_bytes image i one = bytes_of 1 i.val
operand_bytes image i name = bytes_of 8 i.len ++ part image i.start i.len
operand_bytes image i undefined = []

-- a well-formed record's bytes: the first byte (IDMP is 27, FDMP 46), then the operand
unfoldable pub as_bytes : List ℕ → Inst → List ℕ
as_bytes image i = i.typ ∷ operand_bytes image i (form_of i.typ)

-- how many bytes an instruction of a form has, with a name of this length
unfoldable pub size_by : Form → ℕ → ℕ
size_by none len = 1
size_by eight len = 9
size_by one len = 2
size_by name len = 9 + len
size_by undefined len = 1

-- an instruction's length in bytes, by its form: 1, 9, 2, or 9 and the name
abbrev pub inst_length : Inst → ℕ
inst_length i = size_by (form_of i.typ) i.len
