-- The two bytes that were read are those of the number.
use Rattle.std.proofs.Common.{◌≡◌, ℕ, zero, suc, ◌+◌, ◌<◌, List, [], ◌∷◌, ◌++◌, length, get_or, take, drop, refl, sym, ◌∙◌, ap, arith, lit<}
use Rattle.std.proofs.lemmas.Nat.{le_bytes_2}
use Rattle.std.specs.Int.{w16, to_le_bytes, from_le_bytes}
use Rattle.replay.proofs.half_word.Goals as goal

small : (a b : ℕ) → a < 256 → b < 256 → (i : ℕ) → get_or (a ∷ b ∷ []) i 0 < 256
small a b g h zero = g
small a b g h (suc zero) = h
small a b g h (suc (suc i)) = lit< tt

two : (bytes half rest : List ℕ) (n : ℕ) → half ≡ take 2 bytes → rest ≡ drop 2 bytes → length rest + 2 ≡ length bytes → get_or bytes 0 0 < 256 → get_or bytes 1 0 < 256
    → n ≡ from_le_bytes w16 half → bytes ≡ to_le_bytes w16 n ++ rest
two [] half rest n e f l g h m = absurd (omega arith)
two (a ∷ []) half rest n e f l g h m = absurd (omega arith)
two (a ∷ b ∷ bytes) half rest n e f l g h m =
    let k = le_bytes_2 (a ∷ b ∷ []) n refl (small a b g h) (m ∙ ap (from_le_bytes w16) e) in rw f (sym (ap (λ xs. xs ++ bytes) k))

pub returns : goal.returns
returns c =
    let h = c.in_ok-half.ensures.cases in
    (omega arith, two c.args.bytes.now c.in_ok-half.half.now _ _ h.0 h.1 h.2 (omega (arith, c.type_inv.bytes 0)) (omega (arith, c.type_inv.bytes 1)) c.from_le_bytes.ensures)
