-- Document 01's sample and a refusal, computed from the definitions. Assumes nothing.
use mathlib.Core.Path.{◌≡◌, refl}
use mathlib.Core.List.{[], ◌∷◌}
use Rattle.machine.specs.Ending.{Halted}
use Rattle.report.specs.Text.{numeral, ending_text, cell_line, end_line, refused_line}

-- `7ff2000000000006`
cell_sample : cell_line 0x7ff2000000000006 ≡ 55 ∷ 102 ∷ 102 ∷ 50 ∷ 48 ∷ 48 ∷ 48 ∷ 48 ∷ 48 ∷ 48 ∷ 48 ∷ 48 ∷ 48 ∷ 48 ∷ 48 ∷ 54 ∷ 10 ∷ []
unfolding cell_line
cell_sample = refl

-- `end halt steps 6 ip 5 height 1 calls 0`
end_sample : end_line Halted 6 5 1 0
    ≡ 101 ∷ 110 ∷ 100 ∷ 32 ∷ 104 ∷ 97 ∷ 108 ∷ 116 ∷ 32 ∷ 115 ∷ 116 ∷ 101 ∷ 112 ∷ 115 ∷ 32 ∷ 54 ∷ 32 ∷ 105 ∷ 112 ∷ 32 ∷ 53 ∷ 32 ∷ 104 ∷ 101 ∷ 105 ∷ 103 ∷ 104 ∷ 116 ∷ 32 ∷ 49 ∷ 32 ∷ 99 ∷ 97 ∷ 108 ∷ 108 ∷ 115 ∷ 32 ∷ 48 ∷ 10 ∷ []
unfolding end_line ending_text numeral
end_sample = refl

-- `refused 10`
refused_sample : refused_line 10 ≡ 114 ∷ 101 ∷ 102 ∷ 117 ∷ 115 ∷ 101 ∷ 100 ∷ 32 ∷ 49 ∷ 48 ∷ 10 ∷ []
unfolding refused_line numeral
refused_sample = refl
