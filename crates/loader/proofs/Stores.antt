-- Records stored into a table's bytes. Assumes nothing.
use Prim.Native.Nat.{ℕ, ◌+◌, ◌*◌, ◌<◌, ◌≤◌}
use mathlib.Core.Path.{◌≡◌, ap, sym, ◌∙◌}
use mathlib.Core.Bool.{Bool, true, false, cond}
use mathlib.Core.List.{List, [], ◌∷◌, ◌++◌}
use native.Mathlib.Omega.{arith}
use lib.Dec.{ltb}
use lib.ListN.{length, set, drop, length-append}
use lib.Seq.{sets, length-sets}
use borrow.Author.Tests.{lt-ltb, le-ltb}
use Rattle.inst.specs.declared.Inst.{Inst}
use Rattle.inst.proofs.Laws.{sets_more}
use Rattle.machine.specs.declared.Label.{Label}
use Rattle.machine.specs.Load.{halt, last_is_halt, closed}
use Rattle.tables.specs.Tables.{bytes_of, numbers_of, inst_numbers, label_numbers, inst_bytes, label_bytes}
use Rattle.tables.proofs.Numbers.{sets_behind}
use Rattle.tables.proofs.Bytes.{length_bytes, bytes_append, sets_over}
use Rattle.tables.proofs.Laws.{insts_append, labels_append, length_insts, length_labels}

-- a table keeps its length
pub put_long : (ys ys' vs : List ℕ) (i : ℕ) → ys' ≡ sets ys i vs → length ys' ≡ length ys
put_long ys ys' vs i e = ap length e ∙ length-sets ys i vs

-- bytes behind those stored
behind : (xs ys vs ws : List ℕ) (i : ℕ) → ys ≡ sets xs 0 vs → length vs ≡ 32 * i → sets ys (i * 32) ws ≡ sets xs 0 (vs ++ ws)
behind xs ys vs ws i e n =
    let m : i * 32 ≡ 0 + length vs = omega arith in
    rw (e, m) (sets_more vs xs ws 0)

-- an instruction more
pub inst_more : (xs ys : List ℕ) (is : List Inst) (i : Inst) (n : ℕ) → n ≡ length is → ys ≡ sets xs 0 (inst_bytes is)
    → sets ys (n * 32) (bytes_of (inst_numbers i)) ≡ sets xs 0 (inst_bytes (is ++ (i ∷ [])))
unfolding numbers_of
inst_more xs ys is i n m e =
    rw (m, insts_append is (i ∷ [])) (behind xs ys (inst_bytes is) (bytes_of (inst_numbers i)) (length is) e (length_insts is))

-- HALT, where it is appended
pub halt_more : (xs ys : List ℕ) (is : List Inst) (n : ℕ) → n ≡ length is → ys ≡ sets xs 0 (inst_bytes is)
    → cond (ltb n (length (closed is))) (sets ys (n * 32) (bytes_of (inst_numbers halt))) ys ≡ sets xs 0 (inst_bytes (closed is))
unfolding closed
halt_more xs ys is n m e = by_halt (last_is_halt is)
  where
    by_halt : (b : Bool) → cond (ltb n (length (cond b is (is ++ (halt ∷ []))))) (sets ys (n * 32) (bytes_of (inst_numbers halt))) ys ≡ sets xs 0 (inst_bytes (cond b is (is ++ (halt ∷ []))))
    by_halt true = let h : length is ≤ n = omega arith in simp (le-ltb _ _ h) e
    by_halt false =
        let h : n < length (is ++ (halt ∷ [])) = rw length-append (omega arith) in
        simp (lt-ltb _ _ h) (inst_more xs ys is halt n m e)

-- a label more, and a label over the first
pub label_more : (xs ys : List ℕ) (ls : List Label) (l : Label) (n : ℕ) → n ≡ length ls → ys ≡ sets xs 0 (label_bytes ls)
    → sets ys (n * 32) (bytes_of (label_numbers l)) ≡ sets xs 0 (label_bytes (ls ++ (l ∷ [])))
unfolding numbers_of
label_more xs ys ls l n m e =
    rw (m, labels_append ls (l ∷ [])) (behind xs ys (label_bytes ls) (bytes_of (label_numbers l)) (length ls) e (length_labels ls))

pub label_over : (xs ys : List ℕ) (ls : List Label) (l : Label) (n : ℕ) → n ≡ 0 → 0 < length ls → ys ≡ sets xs 0 (label_bytes ls)
    → sets ys (n * 32) (bytes_of (label_numbers l)) ≡ sets xs 0 (label_bytes (l ∷ drop 1 ls))
unfolding numbers_of
label_over xs ys [] l n m h e = absurd (omega arith)
label_over xs ys (k ∷ ls) l n m h e =
    rw (m, e, bytes_append (label_numbers k) (numbers_of label_numbers ls), bytes_append (label_numbers l) (numbers_of label_numbers ls))
    (sets_over (bytes_of (label_numbers k)) (bytes_of (label_numbers l)) (label_bytes ls) xs (length_bytes (label_numbers k) ∙ sym (length_bytes (label_numbers l))))

-- the same where the table is lent as records
pub record_more : (xs ys ls : List Label) (l : Label) (n : ℕ) → n ≡ length ls → ys ≡ sets xs 0 ls → set ys n l ≡ sets xs 0 (ls ++ (l ∷ []))
record_more xs ys ls l n m e = let z : n ≡ 0 + length ls = omega arith in rw (z, e) (sets_more ls xs (l ∷ []) 0)

pub record_over : (xs ys ls : List Label) (l : Label) (n : ℕ) → n ≡ 0 → 0 < length ls → 0 < length ys → ys ≡ sets xs 0 ls → set ys n l ≡ sets xs 0 (l ∷ drop 1 ls)
record_over xs ys [] l n m h z e = absurd (omega arith)
record_over [] ys (k ∷ ls) l n m h z e = absurd (omega (arith, ap length e ∙ length-sets [] 0 (k ∷ ls)))
record_over (x ∷ xs) ys (k ∷ ls) l n m h z e = rw (m, e, sets_behind k xs ls 0) (sym (sets_behind l xs ls 0))
