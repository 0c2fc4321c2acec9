-- Worked examples of the definitions, computed.
-- Assumes nothing.
use Rattle.std.proofs.Common.{◌≡◌, negsuc, refl}
use Rattle.nan.specs.declared.CellType.TheVariants.{F64, I64, U64, Ptr, Unknown}
use Rattle.nan.specs.Cells.{tagged, type_of, value, modulo64, signed, as_u64, boxed, from_i64, from_u64}

examples :
    (as_u64 0xFFF2000000000001 ≡ 0xFFFFFFFFFFFFFFFF)
    × (as_u64 0xFFF2000000000000 ≡ 0)
    × (from_u64 0xFFFFFFFFFFFFFFFF ≡ 0xFFF3000000000001)
    × (from_i64 (negsuc 0x7FFFFFFFFFFFFFFF) ≡ 0xFFF2000000000000)  -- -2 ^ 63
    × (type_of 0x7FF0000000000000 ≡ F64)  -- infinity
    × (type_of 0x7FF1000000000000 ≡ F64)
    × (type_of 0xFFF2000000000000 ≡ I64)
    × (type_of 0x7FF3000000000000 ≡ U64)
    × (type_of 0x7FF4000000000000 ≡ Ptr)
    × (type_of 0x7FF8000000000000 ≡ F64)
    × (type_of 0xFFF8FFFFFFFFFFFF ≡ F64)
    × (type_of 0x7FF0000000000001 ≡ Unknown)
    × (type_of 0xFFF9000000000000 ≡ Unknown)
unfolding tagged type_of value modulo64 signed as_u64 boxed
examples = (refl, refl, refl, refl, refl, refl, refl, refl, refl, refl, refl, refl, refl)
