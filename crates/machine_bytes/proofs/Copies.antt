-- Numbers read from bytes and written to them, one by one. Assumes nothing.
use Prim.Native.Nat.{ℕ, ◌+◌, ◌*◌, ◌≤◌, ◌<◌}
use mathlib.Core.Path.{◌≡◌, refl, sym, ap, ◌∙◌}
use mathlib.Core.List.{List, [], ◌∷◌, ◌++◌}
use native.Mathlib.Numerals.{add-one}
use native.Mathlib.Omega.{arith}
use lib.ListN.{length, take, get_or, set, length-set}
use lib.Seq.{sets, length-sets, length-take-le, take-suc, take-suc-set, take_all}
use Rattle.word.specs.Words.{eight_of}
use Rattle.inst.proofs.Laws.{sets_more}
use Rattle.tables.specs.Tables.{bytes_of}
use Rattle.tables.proofs.Bytes.{bytes_append, length_bytes}

-- the first i numbers are read
pub record Read (xs ys : List ℕ) (i : ℕ) : Type 0 where
  pub long : length ys ≡ length xs
  pub inside : i ≤ length ys
  pub same : take i ys ≡ take i xs

pub read_more : (xs ys : List ℕ) (i : ℕ) → Read xs ys i → i < length ys → Read xs (set ys i (get_or xs i 0)) (i + 1)
read_more xs ys i c h =
    let l = length-set ys i (get_or xs i 0) in
    let k : i < length xs = omega (arith, c.long) in
    record {
      long = l ∙ c.long;
      inside = omega arith;
      same = rw add-one (take-suc-set ys i (get_or xs i 0) h ∙ ap (λ (zs : List ℕ). zs ++ (get_or xs i 0 ∷ [])) c.same ∙ sym (take-suc xs i 0 k));
    }

pub read_all : (xs ys : List ℕ) (i : ℕ) → Read xs ys i → length ys ≤ i → ys ≡ xs
read_all xs ys i c h =
    let k : length xs ≤ i = omega (arith, c.long) in
    sym (take_all i ys h) ∙ c.same ∙ take_all i xs k

one : (v : ℕ) → bytes_of (v ∷ []) ≡ eight_of v
unfolding bytes_of eight_of
one v = refl

-- the bytes of the first i numbers stand in bs, from `at` on
pub record Wrote (xs bs₀ : List ℕ) (at : ℕ) (bs : List ℕ) (i : ℕ) : Type 0 where
  pub is : bs ≡ sets bs₀ at (bytes_of (take i xs))
  pub long : length bs ≡ length bs₀
  pub inside : i ≤ length xs

-- and of one more
one_more : (xs bs : List ℕ) (at i : ℕ) → i < length xs
    → sets (sets bs at (bytes_of (take i xs))) (at + i * 8) (eight_of (get_or xs i 0)) ≡ sets bs at (bytes_of (take (i + 1) xs))
one_more xs bs at i h =
    let ys = bytes_of (take i xs) in
    let e : at + i * 8 ≡ at + length ys = omega (arith, length_bytes (take i xs), length-take-le i xs (omega arith)) in
    ap (λ (k : ℕ). sets (sets bs at ys) k (eight_of (get_or xs i 0))) e
    ∙ sets_more ys bs (eight_of (get_or xs i 0)) at
    ∙ ap (λ (zs : List ℕ). sets bs at (ys ++ zs)) (sym (one (get_or xs i 0)))
    ∙ ap (sets bs at) (sym (bytes_append (take i xs) (get_or xs i 0 ∷ [])) ∙ ap bytes_of (sym (rw add-one (take-suc xs i 0 h))))

pub wrote_more : (xs bs₀ : List ℕ) (at : ℕ) (bs : List ℕ) (i : ℕ) (bs' : List ℕ) → Wrote xs bs₀ at bs i → i < length xs → bs' ≡ sets bs (at + i * 8) (eight_of (get_or xs i 0))
    → Wrote xs bs₀ at bs' (i + 1)
wrote_more xs bs₀ at bs i bs' w h e =
    record {
      is = e ∙ ap (λ (ys : List ℕ). sets ys (at + i * 8) (eight_of (get_or xs i 0))) w.is ∙ one_more xs bs₀ at i h;
      long = ap length e ∙ length-sets bs (at + i * 8) (eight_of (get_or xs i 0)) ∙ w.long;
      inside = omega arith;
    }

pub wrote_all : (xs bs₀ : List ℕ) (at : ℕ) (bs : List ℕ) (i : ℕ) → Wrote xs bs₀ at bs i → length xs ≤ i → bs ≡ sets bs₀ at (bytes_of xs)
wrote_all xs bs₀ at bs i w h = w.is ∙ ap (λ (ys : List ℕ). sets bs₀ at (bytes_of ys)) (take_all i xs h)
