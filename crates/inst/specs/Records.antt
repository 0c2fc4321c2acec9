-- Names as parts of the image, and the well-formed record of document 01's number 34.
use Rattle.std.specs.Prelude.{ℕ, ◌+◌, ◌<◌, Bool, true, false, ◌&&◌, List, [], ◌∷◌, eqb, ltb, leb, length, get_or}
use Rattle.std.proofs.Math.Seq.{slice}
use Rattle.inst.specs.declared.Inst.{Inst}
use Rattle.inst.specs.Forms.{Form, none, eight, one, name, undefined, form_of}

-- a record of which only the first byte and the operand are used, or the first byte and the name
abbrev pub plain : ℕ → ℕ → Inst
plain op v = record { typ = op; val = v; start = 0; len = 0 }

abbrev pub named : ℕ → ℕ → ℕ → Inst
named op start len = record { typ = op; val = 0; start = start; len = len }

-- an image is a list of bytes
abbrev pub Bytes : List ℕ → Type 0
Bytes image = (k : ℕ) → get_or image k 0 < 256

-- the check of a name: every byte is below 128
unfoldable pub name_ok : List ℕ → Bool
name_ok [] = true
name_ok (b ∷ bs) = ltb b 128 && name_ok bs

-- two names are the same bytes
unfoldable pub same : List ℕ → List ℕ → Bool
same [] [] = true
same [] (y ∷ ys) = false
same (x ∷ xs) [] = false
same (x ∷ xs) (y ∷ ys) = eqb x y && same xs ys

-- a name's bytes, by start and length as document 01 has it
abbrev pub part : List ℕ → ℕ → ℕ → List ℕ
part image start len = slice start (start + len) image

-- a name part inside the image and without a byte of 128 or more
unfoldable pub name_in : List ℕ → ℕ → ℕ → Bool
name_in image start len = leb (start + len) (length image) && name_ok (part image start len)

-- a record by its operand's form: unused fields are 0, a stream is at most 255, a name is in the image
unfoldable pub fits : List ℕ → Inst → Form → Bool
fits image i none = eqb i.val 0 && eqb i.start 0 && eqb i.len 0
fits image i eight = eqb i.start 0 && eqb i.len 0
fits image i one = leb i.val 255 && eqb i.start 0 && eqb i.len 0
fits image i name = eqb i.val 0 && name_in image i.start i.len
fits image i undefined = false

unfoldable pub well_formed : List ℕ → Inst → Bool
well_formed image i = fits image i (form_of i.typ)
