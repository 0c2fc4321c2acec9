-- Cells (NaNBox), as document 01 and request a of document 02 have them: type, value, as_u64, from_i64, from_u64.
-- A cell is a number below 2 ^ 64. Signed whole numbers are the library's ℤ.
use Rattle.std.specs.Prelude.{ℕ, suc, ◌+◌, ◌-◌, ◌*◌, ◌/◌, ◌%◌, ◌^◌, Bool, cond, ℤ, pos, negsuc, neg_ℤ, ◌==◌, nat_le, nat_lt}
use Rattle.binary64.specs.Binary64.{is_nan}
use Rattle.nan.specs.declared.CellType.{CellType}
use Rattle.nan.specs.declared.CellType.TheVariants.{F64, I64, U64, Ptr, Unknown}

-- bit 63
abbrev pub negative : ℕ → Bool
negative c = nat_le (2 ^ 63) c

-- bits 48 to 51: 1 F64, 2 I64, 3 U64, 4 Ptr, 8 F64 (document 02, request a), others unknown
unfoldable pub tagged : ℕ → CellType
tagged t = cond (t == 1) F64 (cond (t == 2) I64 (cond (t == 3) U64 (cond (t == 4) Ptr (cond (t == 8) F64 Unknown))))

-- type: F64 if not a NaN; otherwise by bits 48 to 51
unfoldable pub type_of : ℕ → CellType
type_of c = cond (is_nan c) (tagged (c / 2 ^ 48 % 16)) F64

-- value = low 48 bits, negated if bit 63 is set
unfoldable pub value : ℕ → ℤ
value c = cond (negative c) (neg_ℤ (pos (c % 2 ^ 48))) (pos (c % 2 ^ 48))

-- a whole number modulo 2 ^ 64, from 0 to 2 ^ 64 - 1
unfoldable pub modulo64 : ℤ → ℕ
modulo64 (pos n) = n % 2 ^ 64
modulo64 (negsuc n) = 2 ^ 64 - suc (n % 2 ^ 64)

-- a number below 2 ^ 64 taken as signed
unfoldable pub signed : ℕ → ℤ
signed n = cond (nat_lt n (2 ^ 63)) (pos n) (neg_ℤ (pos (2 ^ 64 - n)))

-- as_u64 = value modulo 2 ^ 64
unfoldable pub as_u64 : ℕ → ℕ
as_u64 c = modulo64 (value c)

-- top 16 bits as given, the magnitude modulo 2 ^ 48 below, bit 63 set if v < 0
unfoldable pub boxed : ℕ → ℤ → ℕ
boxed top (pos n) = top * 2 ^ 48 + n % 2 ^ 48
boxed top (negsuc n) = 2 ^ 63 + top * 2 ^ 48 + suc n % 2 ^ 48

abbrev pub from_i64 : ℤ → ℕ
from_i64 v = boxed 0x7FF2 v

-- its argument first taken as signed
abbrev pub from_u64 : ℕ → ℕ
from_u64 n = boxed 0x7FF3 (signed n)
