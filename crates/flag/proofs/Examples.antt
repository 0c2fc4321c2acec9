-- Worked examples of the definitions, computed. M10 is document 01's mark; a jump is named by its first byte.
-- Assumes nothing.
use mathlib.Core.Path.{◌≡◌, refl}
use mathlib.Core.Bool.{true, false}
use Rattle.flag.specs.Flags.{cmp, is_set}

examples :
    (is_set (cmp 5 5) 16 ≡ false)  -- M10: JGE
    × (is_set (cmp 5 5) 14 ≡ false)  -- M10: JLE
    × (is_set (cmp 5 5) 12 ≡ true)  -- JE
    × (is_set (cmp 3 5) 13 ≡ true)  -- JL
    × (is_set (cmp 3 5) 14 ≡ true)  -- JLE
    × (is_set (cmp 5 3) 15 ≡ true)  -- JG
    × (is_set (cmp 5 3) 16 ≡ true)  -- JGE
    × (is_set (cmp 5 3) 17 ≡ true)  -- JNE
    × (is_set (cmp 0 5) 18 ≡ true)  -- JZ
    × (is_set (cmp 5 0) 19 ≡ true)  -- JNZ
unfolding cmp is_set
examples = (refl, refl, refl, refl, refl, refl, refl, refl, refl, refl)
