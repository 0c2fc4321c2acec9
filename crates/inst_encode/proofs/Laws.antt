-- Bytes of numbers and records, stored one after another. Assumes nothing.
use Prim.Native.Nat.{ℕ, ◌<◌, ◌≤◌, ◌+◌, ◌-◌, ◌/◌, ◌%◌, ◌^◌}
use mathlib.Core.Path.{◌≡◌, ◌∙◌, sym, ap}
use mathlib.Core.List.{List, ◌∷◌, ◌++◌}
use native.Mathlib.Numerals.{add-one}
use native.Mathlib.Omega.{arith}
use lib.ListN.{length, set, take, drop}
use lib.Seq.{sets}
use Rattle.inst.specs.declared.Inst.{Inst}
use Rattle.inst.specs.Forms.{Form, form_of, form_at, means}
use Rattle.inst.specs.declared.forms.Form.{Form as Kind}
use Rattle.std.specs.Prelude.{Option, Some}
use Rattle.inst.proofs.Laws.{sets_more}
use Rattle.inst.proofs.Parts.{lent_whole}
use Rattle.word.specs.Words.{eight_of}
use Rattle.inst_encode.specs.Encode.{bytes_of, operand_bytes, as_bytes}

-- the eight bytes of a number of 64 bits
pub eight_is : (v : ℕ) → v < 2 ^ 64 → eight_of v ≡ bytes_of 8 v
unfolding eight_of bytes_of
eight_is v h =
    let e1 : v / 0x100 / 256 ≡ v / 0x10000 = omega arith in
    let e2 : v / 0x10000 / 256 ≡ v / 0x1000000 = omega arith in
    let e3 : v / 0x1000000 / 256 ≡ v / 0x100000000 = omega arith in
    let e4 : v / 0x100000000 / 256 ≡ v / 0x10000000000 = omega arith in
    let e5 : v / 0x10000000000 / 256 ≡ v / 0x1000000000000 = omega arith in
    let e6 : v / 0x1000000000000 / 256 % 256 ≡ v / 0x100000000000000 = omega arith in
    simp (e1, e2, e3, e4, e5, e6)

-- stores behind stores
stored_both : (l l₁ l₂ vs ws : List ℕ) (at n : ℕ) → length vs ≡ n → l₁ ≡ sets l at vs → l₂ ≡ sets l₁ (at + n) ws → l₂ ≡ sets l at (vs ++ ws)
stored_both l l₁ l₂ vs ws at n e p q = q ∙ rw (p, ← e) (sets_more vs l ws at)

-- stores, and behind them a copy into the rest of the slice, which was lent for it
pub stored_copied : (l b xs vs : List ℕ) (at n e : ℕ) → length vs ≡ n → b ≡ sets l at vs → at + n ≤ e → e ≤ length b → length xs ≡ e - (at + n)
    → take (at + n) b ++ (xs ++ drop (e - (at + n)) (drop (at + n) b)) ≡ sets l at (vs ++ xs)
stored_copied l b xs vs at n e h p k m q = stored_both l b _ vs xs at n h p (lent_whole b xs (at + n) e k m q)

-- the first byte, then the operand
pub stored_first : (out out' bytes ops : List ℕ) (at op : ℕ) → bytes ≡ op ∷ ops → out' ≡ sets (set out at op) (at + 1) ops → out' ≡ sets out at bytes
stored_first out out' bytes ops at op e p = p ∙ rw (add-one, e)

-- a record's bytes by its form, and what has no operand
pub bytes_are : (image : List ℕ) (i : Inst) (f : Form) → form_of i.typ ≡ f → as_bytes image i ≡ i.typ ∷ operand_bytes image i f
unfolding as_bytes
bytes_are image i f e = rw e

-- the form that the code found
pub is_form : (op : ℕ) (r : Option Kind) (f : Kind) → means r ≡ form_of op → r ≡ Some f → form_of op ≡ form_at f
unfolding means
is_form op r f e h = sym e ∙ ap means h
