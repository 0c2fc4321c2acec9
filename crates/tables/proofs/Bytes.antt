-- Laws of a byte slice as a list of numbers. Assumes nothing.
use Prim.Native.Nat.{ℕ, zero, suc, ◌+◌, ◌*◌, ◌/◌, ◌%◌, ◌<◌, ◌≤◌}
use mathlib.Core.Path.{◌≡◌, refl, ap, sym, ◌∙◌}
use mathlib.Core.List.{List, [], ◌∷◌, ◌++◌}
use native.Mathlib.Nat.{suc-add}
use native.Mathlib.Omega.{arith}
use lib.ListN.{length, get_or, set, drop, drop_of_length-le}
use lib.Seq.{sets, length-sets}
use Rattle.inst.proofs.Laws.{sets_more}
use Rattle.word.specs.Words.{number_of, word, eight_of}
use Rattle.word.proofs.Laws.{eight_from, number_back}
use Rattle.tables.specs.Tables.{numbers_in, number_at, bytes_of}
use Rattle.tables.proofs.Numbers.{sets_behind}

eighth : (n : ℕ) → suc n * 8 ≡ suc (suc (suc (suc (suc (suc (suc (suc (n * 8))))))))
eighth n = omega arith

pub length_numbers_in : (bs : List ℕ) → length (numbers_in bs) ≡ length bs / 8
unfolding numbers_in
length_numbers_in [] = refl
length_numbers_in (a ∷ []) = refl
length_numbers_in (a ∷ b ∷ []) = refl
length_numbers_in (a ∷ b ∷ c ∷ []) = refl
length_numbers_in (a ∷ b ∷ c ∷ d ∷ []) = refl
length_numbers_in (a ∷ b ∷ c ∷ d ∷ e ∷ []) = refl
length_numbers_in (a ∷ b ∷ c ∷ d ∷ e ∷ f ∷ []) = refl
length_numbers_in (a ∷ b ∷ c ∷ d ∷ e ∷ f ∷ g ∷ []) = refl
length_numbers_in (a ∷ b ∷ c ∷ d ∷ e ∷ f ∷ g ∷ h ∷ bs) = let q = length_numbers_in bs in omega arith

-- number n
pub number_is : (bs : List ℕ) (n d : ℕ) → n * 8 + 8 ≤ length bs
    → get_or (numbers_in bs) n d
    ≡ number_of (get_or bs (n * 8) 0) (get_or bs (n * 8 + 1) 0) (get_or bs (n * 8 + 2) 0) (get_or bs (n * 8 + 3) 0) (get_or bs (n * 8 + 4) 0) (get_or bs (n * 8 + 5) 0) (get_or bs (n * 8 + 6) 0) (get_or bs (n * 8 + 7) 0)
unfolding numbers_in
number_is [] n z l = absurd (omega arith)
number_is (a ∷ []) n z l = absurd (omega arith)
number_is (a ∷ b ∷ []) n z l = absurd (omega arith)
number_is (a ∷ b ∷ c ∷ []) n z l = absurd (omega arith)
number_is (a ∷ b ∷ c ∷ d ∷ []) n z l = absurd (omega arith)
number_is (a ∷ b ∷ c ∷ d ∷ e ∷ []) n z l = absurd (omega arith)
number_is (a ∷ b ∷ c ∷ d ∷ e ∷ f ∷ []) n z l = absurd (omega arith)
number_is (a ∷ b ∷ c ∷ d ∷ e ∷ f ∷ g ∷ []) n z l = absurd (omega arith)
number_is (a ∷ b ∷ c ∷ d ∷ e ∷ f ∷ g ∷ h ∷ bs) zero z l = refl
number_is (a ∷ b ∷ c ∷ d ∷ e ∷ f ∷ g ∷ h ∷ bs) (suc n) z l = simp (eighth, suc-add) (number_is bs n z (omega arith))

pub number_word : (bs : List ℕ) (n : ℕ) → n * 8 + 8 ≤ length bs → number_at bs n ≡ word bs (n * 8)
number_word bs n l = number_is bs n 0 l ∙ eight_from bs (n * 8) l

-- too few bytes for a number
no_number : (bs : List ℕ) → length bs < 8 → numbers_in bs ≡ []
unfolding numbers_in
no_number [] l = refl
no_number (a ∷ []) l = refl
no_number (a ∷ b ∷ []) l = refl
no_number (a ∷ b ∷ c ∷ []) l = refl
no_number (a ∷ b ∷ c ∷ d ∷ []) l = refl
no_number (a ∷ b ∷ c ∷ d ∷ e ∷ []) l = refl
no_number (a ∷ b ∷ c ∷ d ∷ e ∷ f ∷ []) l = refl
no_number (a ∷ b ∷ c ∷ d ∷ e ∷ f ∷ g ∷ []) l = refl
no_number (a ∷ b ∷ c ∷ d ∷ e ∷ f ∷ g ∷ h ∷ bs) l = absurd (omega arith)

-- the bytes of numbers
pub length_bytes : (vs : List ℕ) → length (bytes_of vs) ≡ 8 * length vs
unfolding bytes_of eight_of
length_bytes [] = refl
length_bytes (v ∷ vs) = let q = length_bytes vs in omega arith

pub bytes_append : (vs ws : List ℕ) → bytes_of (vs ++ ws) ≡ bytes_of vs ++ bytes_of ws
unfolding bytes_of eight_of
bytes_append [] ws = refl
bytes_append (v ∷ vs) ws = rw (bytes_append vs ws)

-- stores behind the first eight bytes
behind_eight : (a b c d e f g h : ℕ) (l vs : List ℕ) (i : ℕ) →
    sets (a ∷ b ∷ c ∷ d ∷ e ∷ f ∷ g ∷ h ∷ l) (suc (suc (suc (suc (suc (suc (suc (suc i)))))))) vs ≡ a ∷ b ∷ c ∷ d ∷ e ∷ f ∷ g ∷ h ∷ sets l i vs
behind_eight a b c d e f g h l vs i =
    sets_behind a _ vs _
    ∙ rw (sets_behind b _ vs (suc (suc (suc (suc (suc (suc i)))))), sets_behind c _ vs (suc (suc (suc (suc (suc i))))), sets_behind d _ vs (suc (suc (suc (suc i)))), sets_behind e _ vs (suc (suc (suc i))), sets_behind f _ vs (suc (suc i)), sets_behind g _ vs (suc i), sets_behind h l vs i)

sets_none : (vs : List ℕ) (i : ℕ) → ◌≡◌ {A = List ℕ} (sets [] i vs) []
sets_none [] i = refl
sets_none (v ∷ vs) i = sets_none vs (suc i)

short : (vs bs : List ℕ) (n : ℕ) → length bs < 8 → numbers_in (sets bs (n * 8) (bytes_of vs)) ≡ sets (numbers_in bs) n vs
short vs bs n l = no_number _ (rw length-sets l) ∙ rw (no_number bs l) (sym (sets_none vs n))

-- numbers stored from number n on, as numbers and as bytes; also where they don't fit
pub numbers_sets : (vs bs : List ℕ) (n : ℕ) → numbers_in (sets bs (n * 8) (bytes_of vs)) ≡ sets (numbers_in bs) n vs
unfolding numbers_in bytes_of eight_of
numbers_sets [] bs n = refl
numbers_sets (v ∷ vs) [] n = short (v ∷ vs) [] n (omega arith)
numbers_sets (v ∷ vs) (a ∷ []) n = short (v ∷ vs) (a ∷ []) n (omega arith)
numbers_sets (v ∷ vs) (a ∷ b ∷ []) n = short (v ∷ vs) (a ∷ b ∷ []) n (omega arith)
numbers_sets (v ∷ vs) (a ∷ b ∷ c ∷ []) n = short (v ∷ vs) (a ∷ b ∷ c ∷ []) n (omega arith)
numbers_sets (v ∷ vs) (a ∷ b ∷ c ∷ d ∷ []) n = short (v ∷ vs) (a ∷ b ∷ c ∷ d ∷ []) n (omega arith)
numbers_sets (v ∷ vs) (a ∷ b ∷ c ∷ d ∷ e ∷ []) n = short (v ∷ vs) (a ∷ b ∷ c ∷ d ∷ e ∷ []) n (omega arith)
numbers_sets (v ∷ vs) (a ∷ b ∷ c ∷ d ∷ e ∷ f ∷ []) n = short (v ∷ vs) (a ∷ b ∷ c ∷ d ∷ e ∷ f ∷ []) n (omega arith)
numbers_sets (v ∷ vs) (a ∷ b ∷ c ∷ d ∷ e ∷ f ∷ g ∷ []) n = short (v ∷ vs) (a ∷ b ∷ c ∷ d ∷ e ∷ f ∷ g ∷ []) n (omega arith)
numbers_sets (v ∷ vs) (a ∷ b ∷ c ∷ d ∷ e ∷ f ∷ g ∷ h ∷ bs) zero =
    ap numbers_in (behind_eight (v % 256) (v / 0x100 % 256) (v / 0x10000 % 256) (v / 0x1000000 % 256) (v / 0x100000000 % 256) (v / 0x10000000000 % 256) (v / 0x1000000000000 % 256) (v / 0x100000000000000) bs (bytes_of vs) 0)
    ∙ rw (number_back v, numbers_sets vs bs 0) (sym (sets_behind v (numbers_in bs) vs 0))
numbers_sets (v ∷ vs) (a ∷ b ∷ c ∷ d ∷ e ∷ f ∷ g ∷ h ∷ bs) (suc n) =
    simp eighth
    (ap numbers_in (behind_eight a b c d e f g h bs (bytes_of (v ∷ vs)) (n * 8))
    ∙ ap (λ l. number_of a b c d e f g h ∷ l) (numbers_sets (v ∷ vs) bs n)
    ∙ sym (sets_behind (number_of a b c d e f g h) (numbers_in bs) (v ∷ vs) n))

-- bytes stored over as many
pub sets_over : (us bs vs l : List ℕ) → length us ≡ length bs → sets (sets l 0 (us ++ vs)) 0 bs ≡ sets l 0 (bs ++ vs)
sets_over [] [] vs l e = refl
sets_over [] (b ∷ bs) vs l e = absurd (omega arith)
sets_over (a ∷ us) [] vs l e = absurd (omega arith)
sets_over (a ∷ us) (b ∷ bs) vs [] e = ap (λ x. sets x 0 (b ∷ bs)) (sets_none (a ∷ us ++ vs) 0) ∙ sets_none (b ∷ bs) 0 ∙ sym (sets_none (b ∷ bs ++ vs) 0)
sets_over (a ∷ us) (b ∷ bs) vs (x ∷ l) e =
    ap (λ y. sets y 0 (b ∷ bs)) (sets_behind a l (us ++ vs) 0)
    ∙ sets_behind b (sets l 0 (us ++ vs)) bs 0
    ∙ ap (λ y. b ∷ y) (sets_over us bs vs l (omega arith))
    ∙ sym (sets_behind b l (bs ++ vs) 0)

-- four numbers stored
length_eight : (v : ℕ) → length (eight_of v) ≡ 8
unfolding eight_of
length_eight v = refl

pub stored_more : (l ws : List ℕ) (v i j : ℕ) → j ≡ i + 8 → sets (sets l i (eight_of v)) j ws ≡ sets l i (eight_of v ++ ws)
stored_more l ws v i j e =
    let m : j ≡ i + length (eight_of v) = rw (length_eight v) e in
    rw m (sets_more (eight_of v) l ws i)

last_eight : (v : ℕ) → eight_of v ≡ eight_of v ++ []
unfolding eight_of
last_eight v = refl

pub four_stored : (l l1 l2 l3 l4 : List ℕ) (i a b c d : ℕ) → l1 ≡ sets l (i * 4 * 8) (eight_of a) → l2 ≡ sets l1 ((i * 4 + 1) * 8) (eight_of b)
    → l3 ≡ sets l2 ((i * 4 + 2) * 8) (eight_of c) → l4 ≡ sets l3 ((i * 4 + 3) * 8) (eight_of d) → l4 ≡ sets l (i * 32) (bytes_of (a ∷ b ∷ c ∷ d ∷ []))
unfolding bytes_of
four_stored l l1 l2 l3 l4 i a b c d p q r s =
    let k : i * 4 * 8 ≡ i * 32 = omega arith in
    let k1 : (i * 4 + 1) * 8 ≡ i * 4 * 8 + 8 = omega arith in
    let k2 : (i * 4 + 2) * 8 ≡ (i * 4 + 1) * 8 + 8 = omega arith in
    let k3 : (i * 4 + 3) * 8 ≡ (i * 4 + 2) * 8 + 8 = omega arith in
    s
    ∙ ap (λ x. sets x ((i * 4 + 3) * 8) (eight_of d)) r
    ∙ ap (λ x. sets (sets x ((i * 4 + 2) * 8) (eight_of c)) ((i * 4 + 3) * 8) (eight_of d)) q
    ∙ ap (λ x. sets (sets (sets x ((i * 4 + 1) * 8) (eight_of b)) ((i * 4 + 2) * 8) (eight_of c)) ((i * 4 + 3) * 8) (eight_of d)) p
    ∙ stored_more _ _ c _ _ k3
    ∙ stored_more _ _ b _ _ k2
    ∙ stored_more _ _ a _ _ k1
    ∙ ap (λ x. sets l (i * 4 * 8) (eight_of a ++ (eight_of b ++ (eight_of c ++ x)))) (last_eight d)
    ∙ ap (λ x. sets l x (bytes_of (a ∷ b ∷ c ∷ d ∷ []))) k

-- one number stored
pub number_set : (bs : List ℕ) (n v : ℕ) → numbers_in (sets bs (n * 8) (eight_of v)) ≡ set (numbers_in bs) n v
unfolding bytes_of eight_of
number_set bs n v = numbers_sets (v ∷ []) bs n

pub eight_long : (bs : List ℕ) (i v : ℕ) → length (sets bs i (eight_of v)) ≡ length bs
eight_long bs i v = length-sets bs i (eight_of v)

-- the numbers past n
none_past : (bs : List ℕ) (n : ℕ) → length bs < 8 → numbers_in (drop (suc n * 8) bs) ≡ drop (suc n) (numbers_in bs)
unfolding numbers_in
none_past bs n l =
    let h : length bs ≤ suc n * 8 = omega arith in
    rw (drop_of_length-le bs h, no_number bs l) refl

pub numbers_drop : (bs : List ℕ) (n : ℕ) → numbers_in (drop (n * 8) bs) ≡ drop n (numbers_in bs)
unfolding numbers_in
numbers_drop bs zero = refl
numbers_drop [] (suc n) = none_past [] n (omega arith)
numbers_drop (a ∷ []) (suc n) = none_past (a ∷ []) n (omega arith)
numbers_drop (a ∷ b ∷ []) (suc n) = none_past (a ∷ b ∷ []) n (omega arith)
numbers_drop (a ∷ b ∷ c ∷ []) (suc n) = none_past (a ∷ b ∷ c ∷ []) n (omega arith)
numbers_drop (a ∷ b ∷ c ∷ d ∷ []) (suc n) = none_past (a ∷ b ∷ c ∷ d ∷ []) n (omega arith)
numbers_drop (a ∷ b ∷ c ∷ d ∷ e ∷ []) (suc n) = none_past (a ∷ b ∷ c ∷ d ∷ e ∷ []) n (omega arith)
numbers_drop (a ∷ b ∷ c ∷ d ∷ e ∷ f ∷ []) (suc n) = none_past (a ∷ b ∷ c ∷ d ∷ e ∷ f ∷ []) n (omega arith)
numbers_drop (a ∷ b ∷ c ∷ d ∷ e ∷ f ∷ g ∷ []) (suc n) = none_past (a ∷ b ∷ c ∷ d ∷ e ∷ f ∷ g ∷ []) n (omega arith)
numbers_drop (a ∷ b ∷ c ∷ d ∷ e ∷ f ∷ g ∷ h ∷ bs) (suc n) = simp eighth (numbers_drop bs n)
