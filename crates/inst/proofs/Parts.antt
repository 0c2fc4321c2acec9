-- A part of a slice that was lent and came back with stores at its front. Assumes nothing.
use Prim.Native.Nat.{ℕ, ◌≤◌, ◌-◌, ◌+◌}
use mathlib.Core.Path.{◌≡◌, ap, sym, ◌∙◌}
use mathlib.Core.List.{List, ◌++◌, append_assoc, append-nil}
use native.Mathlib.Nat.{zero-add}
use native.Mathlib.Omega.{arith}
use lib.ListN.{length, take, drop, length-drop, take-append-drop, drop_of_length-le}
use lib.Seq.{sets, sets-eq, length-take-le, drop-append-le, drop-drop}

-- how long the rest of a slice is, as it is lent
pub rest_long : {A : Type 0} (b : List A) (i : ℕ) → length (take (length b - i) (drop i b)) ≡ length b - i
rest_long b i = length-take-le (length b - i) (drop i b) (omega (arith, length-drop i b))

-- the part from i up to e of b was lent, and came back as ys: with vs stored at its front
pub lent_part : {A : Type 0} (b ys vs : List A) (i e : ℕ) → i + length vs ≤ e → e ≤ length b → ys ≡ sets (take (e - i) (drop i b)) 0 vs
    → take i b ++ (ys ++ drop (e - i) (drop i b)) ≡ sets b i vs
lent_part {A} b ys vs i e h l q =
    let x = drop i b in
    let n = e - i in
    let k = length vs in
    let long : length (take n x) ≡ n = length-take-le n x (omega (arith, length-drop i b)) in
    let front : sets (take n x) 0 vs ≡ vs ++ drop k (take n x) = sets-eq vs (take n x) 0 (omega (arith, long)) ∙ ap (λ (j : ℕ). vs ++ drop j (take n x)) (zero-add k) in
    let behind : drop k (take n x) ++ drop n x ≡ drop (i + k) b =
    sym (drop-append-le k (take n x) (drop n x) (omega (arith, long))) ∙ ap (drop k) (take-append-drop n x) ∙ drop-drop k i b in
    ap (λ (y : List A). take i b ++ (y ++ drop n x)) (q ∙ front)
    ∙ ap (λ (y : List A). take i b ++ y) (append_assoc vs (drop k (take n x)) (drop n x) ∙ ap (λ (y : List A). vs ++ y) behind)
    ∙ sym (sets-eq vs b i (omega arith) ∙ append_assoc (take i b) vs (drop (i + k) b))

-- all of it was written
pub lent_whole : {A : Type 0} (b ys : List A) (i e : ℕ) → i ≤ e → e ≤ length b → length ys ≡ e - i → take i b ++ (ys ++ drop (e - i) (drop i b)) ≡ sets b i ys
lent_whole {A} b ys i e h l q =
    let k : i + (e - i) ≡ i + length ys = omega arith in
    ap (λ (y : List A). take i b ++ (ys ++ y)) (drop-drop (e - i) i b ∙ ap (λ (n : ℕ). drop n b) k)
    ∙ sym (sets-eq ys b i (omega arith) ∙ append_assoc (take i b) ys (drop (i + length ys) b))

-- stores over all of a slice
pub sets_whole : {A : Type 0} (b vs : List A) → length vs ≡ length b → sets b 0 vs ≡ vs
sets_whole b vs e = sets-eq vs b 0 (omega arith) ∙ ap (λ y. vs ++ y) (drop_of_length-le b {i = 0 + length vs} (omega arith)) ∙ append-nil vs
