-- Numbers in decimal, and words put one behind another. Assumes nothing.
use Prim.Native.Nat.{ℕ, zero, suc, ◌+◌, ◌*◌, ◌/◌, ◌%◌, ◌^◌, ◌-◌, ◌<◌, ◌≤◌}
use mathlib.Core.Path.{◌≡◌, refl, sym, ◌∙◌, ap}
use mathlib.Core.List.{List, [], ◌∷◌, ◌++◌, append_assoc, append-nil}
use native.Mathlib.Nat.{pow-suc, one-le-pow, pow-le-pow_right, lt_of_not-le, le_of_suc-le-suc}
use native.Mathlib.Omega.{arith}
use lib.Dec.{ltb, lit<, lit≤}
use lib.ListN.{length, get_or, take, drop, length-append}
use lib.Seq.{sets, length-sets, length-take-le, drop-drop}
use Rattle.std.specs.Int.{w64, from_le_bytes}
use Rattle.std.specs.Simd.{first_chunks}
use Rattle.word.proofs.Laws.{eight_read}
use Rattle.tables.specs.Tables.{numbers_in}
use Rattle.tables.proofs.Bytes.{number_word}
use Rattle.std.proofs.lemmas.List.{take_more}
use borrow.Author.Tests.{lt-ltb, le-ltb}
use Rattle.inst.proofs.Parts.{lent_whole}
use Rattle.inst.proofs.Laws.{by_test, sets_more}
use Rattle.machine.specs.declared.Ending as code
use Rattle.machine.specs.declared.Ending.TheVariants as variant
use Rattle.machine.specs.Ending.{Ending, Halted, Limit, Number, ending_of, ending_number}
use Rattle.io.specs.Digits.{last_digits, hex_digit_ascii, IsDigitCount}
use Rattle.report.specs.declared.Output.{Output}
use Rattle.report.specs.Outputs.{HasRoom, Prints}
use Rattle.report.specs.Text.{numeral, decimal, cell_line, cell_lines, ending_text, end_line, refused_line, Put}

-- the fewest digits that hold a number are its numeral
pub fewest_digits : (most k n : ℕ) → k ≤ most → IsDigitCount 10 1 n k → last_digits 10 k n ≡ numeral most n
unfolding numeral
fewest_digits most zero n h f = absurd (omega arith)
fewest_digits zero (suc k) n h f = absurd (omega arith)
fewest_digits (suc most) (suc zero) n h f = let l : n < 10 = omega arith in rw (lt-ltb n 10 l)
fewest_digits (suc most) (suc (suc k)) n h f =
    let e : suc (suc k) - 1 ≡ suc k = omega arith in
    let d : suc k - 1 ≡ k = omega arith in
    let low : 10 ^ suc k ≤ n = rw e at (f.2 (omega arith)) in
    let p : 10 ^ suc k ≡ 10 ^ k * 10 = pow-suc 10 k in
    let q : 10 ^ suc (suc k) ≡ 10 ^ suc k * 10 = pow-suc 10 (suc k) in
    let u : 1 ≤ 10 ^ k = one-le-pow k 10 (lit< tt) in
    rw (le-ltb n 10 (omega arith), fewest_digits most (suc k) (n / 10) (omega arith) (omega arith, omega arith, λ _. rw d (omega arith)))

-- they are no more than hold every number below a power of the base
pub fewest_most : (b least most n k : ℕ) → 0 < b → least ≤ most → n < b ^ most → IsDigitCount b least n k → k ≤ most
fewest_most b least most n k h l m f =
    le_of_suc-le-suc (lt_of_not-le (λ (g : suc most ≤ k).
    let p : b ^ (k - 1) ≤ n = f.2 (omega arith) in
    let q : b ^ most ≤ b ^ (k - 1) = pow-le-pow_right h (omega arith) in
    omega arith))

-- what `io::decimal` wrote
pub decimal_is : (out : List ℕ) (k n : ℕ) → n < 10 ^ 20 → IsDigitCount 10 1 n k → take k out ≡ last_digits 10 k n → take k out ≡ decimal n
decimal_is out k n h d e = e ∙ fewest_digits 20 k n (fewest_most 10 1 20 n k (lit< tt) (lit≤ tt) h d) d

-- what `io::hex` wrote
pub hex_is : (out : List ℕ) (k n : ℕ) → n < 16 ^ 16 → IsDigitCount 16 16 n k → take k out ≡ last_digits 16 k n → take k out ≡ last_digits 16 16 n
hex_is out k n h d e =
    let m : k ≤ 16 = fewest_most 16 16 16 n k (lit< tt) (lit≤ tt) h d in
    let q : k ≡ 16 = omega arith in
    e ∙ rw q

-- a copy into a text
pub copied : (t w ys : List ℕ) (at e : ℕ) → at + length w ≡ e → e ≤ length t → ys ≡ w → take at t ++ (ys ++ drop (e - at) (drop at t)) ≡ sets t at w
copied t w ys at e k h q = rw q (lent_whole t w at e (omega arith) h (omega arith))

-- one behind the other
pub put_both : {t t₁ t₂ v w : List ℕ} {at i j : ℕ} → Put t at v t₁ i → Put t₁ i w t₂ j → Put t at (v ++ w) t₂ j
put_both {t} {v = v} {w = w} {at = at} p q =
    record { text_is = q.text_is ∙ rw (p.text_is, p.next_is) (sets_more v t w at); next_is = omega (arith, length-append v w) }

pub prints_both : {o o₁ o₂ : Output} {v w : List ℕ} → Prints o v o₁ → Prints o₁ w o₂ → Prints o (v ++ w) o₂
prints_both p q = record { same_reference = q.same_reference ∙ p.same_reference; put = put_both p.put q.put }

-- a text keeps its length, so that where two lines fit, the second fits behind the first
pub same_length : {t v t₁ : List ℕ} {at i : ℕ} → Put t at v t₁ i → length t₁ ≡ length t
same_length {t} {v} {at = at} p = ap length p.text_is ∙ length-sets t at v

pub room_left : {t v t₁ : List ℕ} {at i : ℕ} (w : List ℕ) → Put t at v t₁ i → at + length (v ++ w) ≤ length t → i + length w ≤ length t₁
room_left {v = v} w p h = omega (arith, same_length p, p.next_is, length-append v w)

-- the lines of some cells and of more behind them
pub lines_append : (cells more : List ℕ) → cell_lines (cells ++ more) ≡ cell_lines cells ++ cell_lines more
unfolding cell_lines
lines_append [] more = refl
lines_append (cell ∷ cells) more = rw (lines_append cells more) (sym (append_assoc (cell_line cell) (cell_lines cells) (cell_lines more)))

-- how long the lines are
length_digits : (b k n : ℕ) → length (last_digits b k n) ≡ k
length_digits b zero n = refl
length_digits b (suc k) n = length-append (last_digits b k (n / b)) _ ∙ omega (arith, length_digits b k (n / b))

length_line : (cell : ℕ) → length (cell_line cell) ≡ 17
unfolding cell_line
length_line cell = simp length-append (omega (arith, length_digits 16 16 cell))

pub length_lines : (cells : List ℕ) → length (cell_lines cells) ≡ 17 * length cells
unfolding cell_lines
length_lines [] = refl
length_lines (cell ∷ cells) = simp length-append (omega (arith, length_line cell, length_lines cells))

-- the lines of the first i cells are printed: of none; of one more; and there is room for one more of all
pub lines_begin : {o : Output} → Prints o (cell_lines []) o
unfolding cell_lines
lines_begin = record { same_reference = refl; put = record { text_is = refl; next_is = omega arith } }

lines_more : (cells : List ℕ) (i : ℕ) → i < length cells → cell_lines (take (i + 1) cells) ≡ cell_lines (take i cells) ++ cell_line (get_or cells i 0)
unfolding cell_lines
lines_more cells i h = rw (take_more cells i 0 h, lines_append, append-nil)

pub lines_next : {o o₁ o₂ : Output} (cells : List ℕ) (i : ℕ) → i < length cells → Prints o (cell_lines (take i cells)) o₁
    → Prints o₁ (cell_line (get_or cells i 0)) o₂ → Prints o (cell_lines (take (i + 1) cells)) o₂
lines_next cells i h p q = rw (lines_more cells i h) (prints_both p q)

pub lines_room : {o o₁ : Output} (cells : List ℕ) (i : ℕ) → i < length cells → Prints o (cell_lines (take i cells)) o₁
    → HasRoom o (cell_lines cells) → HasRoom o₁ (cell_line (get_or cells i 0))
lines_room cells i below p room =
    omega (
      arith,
      length_lines (take i cells),
      length_lines cells,
      length-take-le i cells (omega arith),
      length_line (get_or cells i 0),
      same_length p.put,
      p.put.next_is,
    )

-- number i of some bytes, read from its eight of them
chunk_at : (k i : ℕ) (bs : List ℕ) → i < k → get_or (first_chunks 8 k bs) i [] ≡ take 8 (drop (i * 8) bs)
chunk_at zero i bs h = absurd (omega arith)
chunk_at (suc k) zero bs h = refl
chunk_at (suc k) (suc i) bs h =
    let n : 8 + i * 8 ≡ suc i * 8 = omega arith in
    chunk_at k i (drop 8 bs) (omega arith) ∙ ap (take 8) (drop-drop (i * 8) 8 bs ∙ ap (λ m. drop m bs) n)

pub chunk_is : (bs : List ℕ) (i : ℕ) → i < length bs / 8 → from_le_bytes w64 (get_or (first_chunks 8 (length bs / 8) bs) i []) ≡ get_or (numbers_in bs) i 0
chunk_is bs i h =
    let n : 8 ≡ i * 8 + 8 - i * 8 = omega arith in
    ap (from_le_bytes w64) (chunk_at (length bs / 8) i bs h ∙ ap (λ m. take m (drop (i * 8) bs)) n) ∙ eight_read bs (i * 8) (omega arith) ∙ sym (number_word bs i (omega arith))

pub numeral_short : (most n : ℕ) → length (numeral most n) ≤ most
unfolding numeral
numeral_short zero n = omega arith
numeral_short (suc most) n =
    by_test (λ front. length (front ++ (hex_digit_ascii (n % 10) ∷ [])) ≤ suc most) (ltb n 10) [] (numeral most (n / 10)) (λ _. omega arith)
    (λ _. simp length-append (omega (arith, numeral_short most (n / 10))))

-- but for a halt and the limit the text is the number that a host sees
pub numbered : (e : code.Ending) → (e ≡ variant.Halted → ⊥) → (e ≡ variant.Limit → ⊥) → ending_text (ending_of e) ≡ decimal (ending_number (ending_of e))
unfolding ending_text ending_number
numbered variant.Halted h l = absurd (h refl)
numbered variant.Limit h l = absurd (l refl)
numbered (variant.Trap t) h l = refl
numbered variant.BufferFull h l = refl
numbered variant.IllState h l = refl

pub ending_short : (e : Ending) → length (ending_text e) ≤ 20
unfolding ending_text
ending_short Halted = omega arith
ending_short Limit = omega arith
ending_short (Number n) = numeral_short 20 n

pub end_line_short : (e : Ending) (steps ip height calls : ℕ) → length (end_line e steps ip height calls) ≤ 131
unfolding end_line
end_line_short e steps ip height calls =
    simp length-append (omega (arith, ending_short e, numeral_short 20 steps, numeral_short 20 ip, numeral_short 20 height, numeral_short 20 calls))

pub refused_line_short : (n : ℕ) → length (refused_line n) ≤ 29
unfolding refused_line
refused_line_short n = simp length-append (omega (arith, numeral_short 20 n))
