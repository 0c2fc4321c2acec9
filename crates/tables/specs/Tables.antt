-- A lent table: a byte slice read as a list of numbers, eight bytes a number with the lowest first, and these as a list of records, four numbers a record.
-- Up to 31 bytes left over at its end belong to no record.
use Rattle.std.specs.Prelude.{ℕ, ◌+◌, ◌*◌, List, [], ◌∷◌, ◌++◌, get_or}
use Rattle.word.specs.Words.{number_of, eight_of}
use Rattle.inst.specs.declared.Inst.{Inst}
use Rattle.machine.specs.declared.Label.{Label}
use Rattle.machine.specs.Lookup.{Program}

-- the numbers of each eight bytes, in order
unfoldable pub numbers_in : List ℕ → List ℕ
numbers_in [] = []
numbers_in (a ∷ []) = []
numbers_in (a ∷ b ∷ []) = []
numbers_in (a ∷ b ∷ c ∷ []) = []
numbers_in (a ∷ b ∷ c ∷ d ∷ []) = []
numbers_in (a ∷ b ∷ c ∷ d ∷ e ∷ []) = []
numbers_in (a ∷ b ∷ c ∷ d ∷ e ∷ f ∷ []) = []
numbers_in (a ∷ b ∷ c ∷ d ∷ e ∷ f ∷ g ∷ []) = []
numbers_in (a ∷ b ∷ c ∷ d ∷ e ∷ f ∷ g ∷ h ∷ xs) = number_of a b c d e f g h ∷ numbers_in xs

-- number n of a byte slice
abbrev pub number_at : List ℕ → ℕ → ℕ
number_at bytes n = get_or (numbers_in bytes) n 0

-- and back: the bytes of numbers, in order
unfoldable pub bytes_of : List ℕ → List ℕ
bytes_of [] = []
bytes_of (v ∷ vs) = eight_of v ++ bytes_of vs

-- the records that `make` makes of each four numbers, in order
unfoldable pub records_of : {A : Type 0} → (ℕ → ℕ → ℕ → ℕ → A) → List ℕ → List A
records_of make [] = []
records_of make (a ∷ []) = []
records_of make (a ∷ b ∷ []) = []
records_of make (a ∷ b ∷ c ∷ []) = []
records_of make (a ∷ b ∷ c ∷ d ∷ xs) = make a b c d ∷ records_of make xs

-- an instruction's record: first byte, cell or number or stream, name start and length
abbrev pub inst : ℕ → ℕ → ℕ → ℕ → Inst
inst a b c d = record { typ = a; val = b; start = c; len = d }

-- a label's record: name start and length, target, next index
abbrev pub label : ℕ → ℕ → ℕ → ℕ → Label
label a b c d = record { start = a; len = b; target = c; next = d }

abbrev pub insts_of : List ℕ → List Inst
insts_of bytes = records_of inst (numbers_in bytes)

abbrev pub labels_of : List ℕ → List Label
labels_of bytes = records_of label (numbers_in bytes)

-- record i of an instruction table, by its numbers
abbrev pub inst_of : List ℕ → ℕ → Inst
inst_of bytes i = inst (number_at bytes (i * 4)) (number_at bytes (i * 4 + 1)) (number_at bytes (i * 4 + 2)) (number_at bytes (i * 4 + 3))

-- what a run is lent
abbrev pub program : List ℕ → List ℕ → List ℕ → ℕ → Program
program image insts labels count = record { image = image; insts = insts_of insts; labels = labels_of labels; count = count }

-- and back: the numbers of records, one record after the other, and their bytes
unfoldable pub numbers_of : {A : Type 0} → (A → List ℕ) → List A → List ℕ
numbers_of four [] = []
numbers_of four (r ∷ rs) = four r ++ numbers_of four rs

abbrev pub inst_numbers : Inst → List ℕ
inst_numbers i = i.typ ∷ i.val ∷ i.start ∷ i.len ∷ []

abbrev pub label_numbers : Label → List ℕ
label_numbers l = l.start ∷ l.len ∷ l.target ∷ l.next ∷ []

abbrev pub inst_bytes : List Inst → List ℕ
inst_bytes is = bytes_of (numbers_of inst_numbers is)

abbrev pub label_bytes : List Label → List ℕ
label_bytes ls = bytes_of (numbers_of label_numbers ls)
