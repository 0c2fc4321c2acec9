-- The operand's form of each first byte, as document 01 lists them.
use Rattle.std.specs.Prelude.{ℕ, Bool, cond, ◌&&◌, ◌||◌, eqb, leb, Option, Some, None}
use Rattle.inst.specs.declared.forms.Form.{Form as Kind}
use Rattle.inst.specs.declared.forms.Form.TheVariants.{Bare, Eight, One, Name}

-- the first bytes from a to b
abbrev pub within : ℕ → ℕ → ℕ → Bool
within a b op = leb a op && leb op b

pub data Form : Type 0 where
  none eight one name undefined : Form

-- none: 0, 2 to 9, 22 to 26, 29, 31 to 36, 38 to 45, 69
unfoldable pub has_none : ℕ → Bool
has_none op = eqb op 0 || within 2 9 op || within 22 26 op || eqb op 29 || within 31 36 op || within 38 45 op || eqb op 69

-- eight bytes, little-endian: 1 (a cell), 10 and 11 (a u64)
unfoldable pub has_eight : ℕ → Bool
has_eight op = eqb op 1 || eqb op 10 || eqb op 11

-- one byte: 27, 46
unfoldable pub has_one : ℕ → Bool
has_one op = eqb op 27 || eqb op 46

-- name: 12 to 21, 28, 30, 37
unfoldable pub has_name : ℕ → Bool
has_name op = within 12 21 op || eqb op 28 || eqb op 30 || eqb op 37

-- undefined: all others
unfoldable pub form_of : ℕ → Form
form_of op = cond (has_none op) none (cond (has_eight op) eight (cond (has_one op) one (cond (has_name op) name undefined)))

-- the definition's form of the code's
unfoldable pub form_at : Kind → Form
form_at Bare = none
form_at Eight = eight
form_at One = one
form_at Name = name

-- and of what the code finds for a first byte: what has none is undefined
unfoldable pub means : Option Kind → Form
means None = undefined
means (Some k) = form_at k
