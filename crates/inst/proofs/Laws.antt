-- Laws of tests, forms and parts of a list that the proofs share. Assumes nothing.
use Prim.Native.Nat.{ℕ, zero, suc, ◌<◌, ◌+◌, ◌-◌}
use mathlib.Core.Path.{◌≡◌, refl, ◌∙◌, ap, sym}
use mathlib.Core.Bool.{Bool, true, false, cond, ◌&&◌, ◌||◌, and-false}
use mathlib.Core.List.{List, [], ◌∷◌, ◌++◌}
use native.Mathlib.Nat.{add-zero, add-suc, suc-add}
use native.Mathlib.Omega.{arith}
use lib.Dec.{T, eqb, ltb, leb, lit<}
use lib.ListN.{length, set, take, drop}
use lib.Seq.{take-nil, sets, slice}
use borrow.Author.Tests.{ne_eqb, lt-leb}
use Rattle.inst.specs.Forms.{Form, none, eight, one, name, undefined, has_none, has_eight, has_one, has_name, form_of}

-- by a test, and what no test can be
pub by_test : {A : Type 0} (P : A → Type 0) (b : Bool) (x y : A) → (b ≡ true → P x) → (b ≡ false → P y) → P (cond b x y)
by_test P true x y f g = f refl
by_test P false x y f g = g refl

pub never : {A : Type 0} → false ≡ true → A
never e = let z : ◌≡◌ {A = ℕ} 0 1 = cc in absurd (omega arith)

pub and_left : (a b : Bool) → (a && b) ≡ true → a ≡ true
and_left true b t = refl
and_left false b t = t

pub and_right : (a b : Bool) → (a && b) ≡ true → b ≡ true
and_right true b t = t
and_right false b t = cc

pub or_left : (a b : Bool) → (a || b) ≡ false → a ≡ false
or_left true b h = h
or_left false b h = refl

pub or_right : (a b : Bool) → (a || b) ≡ false → b ≡ false
or_right true b h = cc
or_right false b h = h

-- a number that is no byte has no form
module _ (op : ℕ) (h : 255 < op) where
  other : (k : ℕ) → T (ltb k 256) → eqb op k ≡ false
  other k t = let l : k < 256 = lit< t in ne_eqb op k (λ e. omega arith)

  above : (k : ℕ) → T (ltb k 256) → leb op k ≡ false
  above k t = let l : k < 256 = lit< t in lt-leb op k (omega arith)

  pub no_form : form_of op ≡ undefined
  unfolding form_of has_none has_eight has_one has_name
  no_form = let t : T true = tt in simp (other, above, and-false)

-- the letter of each form in the code's table
unfoldable pub letter_of : Form → ℕ
letter_of none = 45
letter_of eight = 56
letter_of one = 49
letter_of name = 110
letter_of undefined = 63

-- and the form of a letter; any other stands for the undefined form
abbrev of_letter : ℕ → Form
of_letter n = cond (eqb n 45) none (cond (eqb n 56) eight (cond (eqb n 49) one (cond (eqb n 110) name undefined)))

letter_back : (f : Form) → f ≡ of_letter (letter_of f)
unfolding letter_of
letter_back none = refl
letter_back eight = refl
letter_back one = refl
letter_back name = refl
letter_back undefined = refl

pub is_letter : (op n k : ℕ) → n ≡ letter_of (form_of op) → n ≡ k → of_letter k ≡ form_of op
is_letter op n k e h = sym (letter_back (form_of op) ∙ ap of_letter (sym e ∙ h))

pub no_letter : (op n : ℕ) → n ≡ letter_of (form_of op) → (n ≡ 45 → ⊥) → (n ≡ 56 → ⊥) → (n ≡ 49 → ⊥) → (n ≡ 110 → ⊥) → undefined ≡ form_of op
no_letter op n e p q r s =
    let k : of_letter n ≡ undefined = simp (ne_eqb n 45 p, ne_eqb n 56 q, ne_eqb n 49 r, ne_eqb n 110 s) in
    sym (letter_back (form_of op) ∙ ap of_letter (sym e) ∙ k)

-- `&l[from..to]` lends the slice
pub slice_of : {A : Type 0} (from to : ℕ) (l : List A) → take (to - from) (drop from l) ≡ slice from to l
slice_of zero to l = let e : to - 0 ≡ to = omega arith in rw e
slice_of (suc from) zero l = let e : 0 - suc from ≡ 0 = omega arith in rw e
slice_of (suc from) (suc to) [] = take-nil (suc to - suc from)
slice_of (suc from) (suc to) (x ∷ xs) = let e : suc to - suc from ≡ to - from = omega arith in rw e (slice_of from to xs)

-- stores behind stores
pub sets_more : {A : Type 0} (vs l ws : List A) (i : ℕ) → sets (sets l i vs) (i + length vs) ws ≡ sets l i (vs ++ ws)
sets_more [] l ws i = rw add-zero
sets_more (v ∷ vs) l ws i = rw (add-suc, ← suc-add i (length vs)) (sets_more vs (set l i v) ws (suc i))
