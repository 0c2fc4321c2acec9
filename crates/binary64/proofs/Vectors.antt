-- Worked examples: the definitions of specs/Binary64 compute.
use mathlib.Core.Path.{◌≡◌, refl}
use mathlib.Core.Bool.{false}
use Prim.Native.Nat.{◌+◌, ◌-◌, ◌^◌}
use lib.IntN.{negsuc}
use Rattle.binary64.specs.Rounding.{round_pattern, count}
use Rattle.binary64.specs.Binary64.{value, sum, opposite, product, quotient, signed_whole, unsigned_whole, negative, sum_bits, difference_bits, product_bits, quotient_bits, to_i64, to_u64, of_whole, below_zero}

-- 0.1 + 0.2; halfway above an odd last place; the largest and half its last place, to the infinity; -0 + -0; a signalling NaN;
-- 1 - 1; the smallest by 1/2, halfway to -0; 1 / 3;
-- -1 + 1; -0 + 0; the infinity less itself, and by -0; 0 / 0; -1 / 0; 1 / -infinity;
-- -2.5 to -2; 2 ^ 64, past the end; 2 ^ 53 + 1, halfway; -0 is not below zero
vectors :
    (sum_bits 0x3fb999999999999a 0x3fc999999999999a ≡ 0x3fd3333333333334)
    × (sum_bits 0x3ff0000000000001 0x3ca0000000000000 ≡ 0x3ff0000000000002)
    × (sum_bits 0x7fefffffffffffff 0x7c90000000000000 ≡ 0x7ff0000000000000)
    × (sum_bits 0x8000000000000000 0x8000000000000000 ≡ 0x8000000000000000)
    × (sum_bits 0xfff0000000000001 0 ≡ 0x7ff8000000000000)
    × (difference_bits 0x3ff0000000000000 0x3ff0000000000000 ≡ 0)
    × (product_bits 0x8000000000000001 0x3fe0000000000000 ≡ 0x8000000000000000)
    × (quotient_bits 0x3ff0000000000000 0x4008000000000000 ≡ 0x3fd5555555555555)
    × (sum_bits 0xbff0000000000000 0x3ff0000000000000 ≡ 0)
    × (sum_bits 0x8000000000000000 0 ≡ 0)
    × (difference_bits 0x7ff0000000000000 0x7ff0000000000000 ≡ 0x7ff8000000000000)
    × (product_bits 0x7ff0000000000000 0x8000000000000000 ≡ 0x7ff8000000000000)
    × (quotient_bits 0 0 ≡ 0x7ff8000000000000)
    × (quotient_bits 0xbff0000000000000 0 ≡ 0xfff0000000000000)
    × (quotient_bits 0x3ff0000000000000 0xfff0000000000000 ≡ 0x8000000000000000)
    × (to_i64 0xc004000000000000 ≡ negsuc 1)
    × (to_u64 0x43f0000000000000 ≡ 2 ^ 64 - 1)
    × (of_whole (2 ^ 53 + 1) ≡ 0x4340000000000000)
    × (below_zero 0x8000000000000000 ≡ false)
unfolding sum_bits difference_bits product_bits quotient_bits to_i64 to_u64 of_whole below_zero value sum opposite product quotient signed_whole unsigned_whole negative round_pattern count
vectors = (refl, refl, refl, refl, refl, refl, refl, refl, refl, refl, refl, refl, refl, refl, refl, refl, refl, refl, refl)
