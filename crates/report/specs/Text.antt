-- What `runimage` prints, as document 01 has it: the text of each kind of line, in ASCII codes.
use Rattle.std.specs.Prelude.{ℕ, zero, suc, ◌+◌, ◌/◌, ◌%◌, ◌≡◌, cond, List, [], ◌∷◌, ◌++◌, ltb, length}
use Rattle.std.proofs.lemmas.List.Edits.{sets}
use Rattle.io.specs.Digits.{hex_digit_ascii, last_digits}
use Rattle.machine.specs.Ending.{Ending, Halted, Limit, Number}

abbrev pub line_end : List ℕ
line_end = 10 ∷ []

-- a dumped cell: 16 lower-case hex digits
unfoldable pub cell_line : ℕ → List ℕ
cell_line cell = last_digits 16 16 cell ++ line_end

unfoldable pub cell_lines : List ℕ → List ℕ
cell_lines [] = []
cell_lines (cell ∷ cells) = cell_line cell ++ cell_lines cells

-- a number in decimal without leading zeros, of so many digits at most
unfoldable pub numeral : ℕ → ℕ → List ℕ
numeral zero n = []
numeral (suc most) n = cond (ltb n 10) [] (numeral most (n / 10)) ++ (hex_digit_ascii (n % 10) ∷ [])

-- every number of 64 bits has 20 digits or fewer
abbrev pub decimal : ℕ → List ℕ
decimal n = numeral 20 n

-- `halt`, `limit` or the number
unfoldable pub ending_text : Ending → List ℕ
ending_text Halted = 104 ∷ 97 ∷ 108 ∷ 116 ∷ []
ending_text Limit = 108 ∷ 105 ∷ 109 ∷ 105 ∷ 116 ∷ []
ending_text (Number n) = decimal n

-- `end `, ` steps `, ` ip `, ` height ` and ` calls `
abbrev pub end_word : List ℕ
end_word = 101 ∷ 110 ∷ 100 ∷ 32 ∷ []

abbrev pub steps_word : List ℕ
steps_word = 32 ∷ 115 ∷ 116 ∷ 101 ∷ 112 ∷ 115 ∷ 32 ∷ []

abbrev pub ip_word : List ℕ
ip_word = 32 ∷ 105 ∷ 112 ∷ 32 ∷ []

abbrev pub height_word : List ℕ
height_word = 32 ∷ 104 ∷ 101 ∷ 105 ∷ 103 ∷ 104 ∷ 116 ∷ 32 ∷ []

abbrev pub calls_word : List ℕ
calls_word = 32 ∷ 99 ∷ 97 ∷ 108 ∷ 108 ∷ 115 ∷ 32 ∷ []

-- the last line: ending, steps in all, pointer, height, calls
unfoldable pub end_line : Ending → ℕ → ℕ → ℕ → ℕ → List ℕ
end_line ending steps ip height calls =
    end_word ++ ending_text ending ++ (steps_word ++ decimal steps) ++ (ip_word ++ decimal ip) ++ (height_word ++ decimal height) ++ (calls_word ++ decimal calls) ++ line_end

-- `refused `, and a refused load's line
abbrev pub refused_word : List ℕ
refused_word = 114 ∷ 101 ∷ 102 ∷ 117 ∷ 115 ∷ 101 ∷ 100 ∷ 32 ∷ []

unfoldable pub refused_line : ℕ → List ℕ
refused_line number = (refused_word ++ decimal number) ++ line_end

-- text' is text with a line or a word stored from `at` on, and nothing else changed; `next` is the offset behind it
pub record Put (text : List ℕ) (at : ℕ) (line text' : List ℕ) (next : ℕ) : Type 0 where
  pub text_is : text' ≡ sets text at line
  pub next_is : next ≡ at + length line
