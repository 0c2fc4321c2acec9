-- Worked examples of the definitions, computed: document 01's marks M1 to M4, and quotients toward zero.
-- Assumes nothing.
use Rattle.std.proofs.Common.{◌≡◌, refl}
use Rattle.nan.specs.Cells.{value, modulo64, signed, boxed}
use Rattle.integer.specs.Integers.{inc, dec, iadd, isub, imul, quotient, idiv}

examples :
    (dec 0xFFF2FFFFFFFFFFFF ≡ 0xFFF2000000000000)  -- M1
    × (inc 0x7FF2FFFFFFFFFFFF ≡ 0x7FF2000000000000)  -- M2
    × (imul 0x7FF2010000000000 0x7FF2000000800000 ≡ 0xFFF2000000000000)  -- M3: 2 ^ 40 by 2 ^ 23
    × (idiv 0xFFF2000000000007 0x7FF2000000000002 ≡ 0xFFF2000000000003)  -- M4: -7 by 2
    × (idiv 0x7FF2000000000007 0xFFF2000000000002 ≡ 0xFFF2000000000003)  -- 7 by -2
    × (iadd 0x7FF2000000000003 0xFFF2000000000005 ≡ 0xFFF2000000000002)  -- 3 + -5
    × (isub 0x7FF2000000000003 0x7FF2000000000003 ≡ 0x7FF2000000000000)  -- a zero has no sign
unfolding value modulo64 signed boxed inc dec iadd isub imul quotient idiv
examples = (refl, refl, refl, refl, refl, refl, refl)
