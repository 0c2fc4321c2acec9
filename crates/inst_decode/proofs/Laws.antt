-- What the definition reads, by the bytes behind the first. Assumes nothing.
use Prim.Native.Nat.{ℕ, ◌+◌, ◌-◌, ◌<◌, ◌≤◌}
use mathlib.Core.Path.{◌≡◌, ◌∙◌, ap, sym}
use mathlib.Core.Bool.{Bool, true, false, cond}
use mathlib.Core.List.{List}
use native.Mathlib.Omega.{arith}
use lib.ListN.{length, get_or, take, drop, length-drop}
use lib.Seq.{drop-drop, take_all}
use borrow.Author.Tests.{lt-leb, lt-ltb, le-ltb}
use Rattle.std.specs.Int.{w64, from_le_bytes}
use Rattle.std.proofs.lemmas.List.{drop-take}
use Rattle.word.specs.Words.{little_endian, word}
use Rattle.word.proofs.Laws.{eight_read}
use Rattle.std.specs.Prelude.{Some}
use Rattle.std.specs.List.{slice_range}
use native.Mathlib.Nat.{sub-zero}
use Rattle.inst.specs.declared.forms.Form.{Form as Kind}
use Rattle.inst.specs.Forms.{eight, name, form_of, form_at, means}
use Rattle.inst.specs.Records.{plain, named, name_ok, part}
use Rattle.inst_decode.specs.Decode.{refused, reads, magnitude, is_negative, read_name, read_operand, from_bytes}

-- the number of eight bytes that were read as an array
pub eight_is : (s e : List ℕ) → 8 ≤ length s → e ≡ take 8 s → from_le_bytes w64 e ≡ word s 0
eight_is s e h q = ap (from_le_bytes w64) q ∙ eight_read s 0 h

-- the rest of a slice, as it is lent
pub rest : (s : List ℕ) (i : ℕ) → take (length s - i) (drop i s) ≡ drop i s
rest s i = take_all (length s - i) (drop i s) (omega (arith, length-drop i s))

-- the instruction of a first byte, by the form that the code found
pub by_form : (image : List ℕ) (at op : ℕ) (f k : Kind) → at < length image → op ≡ get_or image at 0 → means (Some f) ≡ form_of op → f ≡ k → read_operand image at op (form_at k) ≡ from_bytes image at
unfolding from_bytes means
by_form image at op f k h q e r = rw (← q, ← e, r) (simp (lt-leb (length image) at h))

module _ (image s : List ℕ) (at op : ℕ) (h : at < length image) (q : s ≡ drop (at + 1) image) where
  long : length image ≡ at + 1 + length s
  long = omega (arith, ap length q, length-drop (at + 1) image)

  field_is : word s 0 ≡ word image (at + 1)
  field_is = rw q (ap little_endian (drop-take 0 8 (drop (at + 1) image) ∙ sym (drop-take (at + 1) 8 image)))

  part_is : (len : ℕ) → take len (drop 8 s) ≡ part image (at + 9) len
  part_is len = let n : at + 1 + 8 ≡ at + 9 = omega arith in rw (q, drop-drop, n) (sym (drop-take (at + 9) len image))

  pub eight_behind : 8 ≤ length s → reads (plain op (word s 0)) 9 ≡ read_operand image at op eight
  unfolding read_operand
  eight_behind l = rw field_is (simp (le-ltb (length image) (at + 9) (omega (arith, long))))

  pub short : length s < 8 → refused 3 ≡ read_operand image at op name
  unfolding read_operand
  short l = simp (lt-ltb (length image) (at + 9) (omega (arith, long)))

  behind : 8 ≤ length s → read_name image at op (word s 0) ≡ read_operand image at op name
  unfolding read_operand
  behind l = rw field_is (simp (le-ltb (length image) (at + 9) (omega (arith, long))))

  module _ (f : ℕ) (l : 8 ≤ length s) (e : f ≡ word s 0) where
    pub negative : is_negative f ≡ true → refused 3 ≡ read_operand image at op name
    unfolding read_name
    negative n = rw (← behind l, ← e) (simp n)

    module _ (n : is_negative f ≡ false) (b : List ℕ) (r : b ≡ drop 8 s) where
      rest_long : length b + 8 ≡ length s
      rest_long = omega (arith, ap length r, length-drop 8 s)

      pub past : length b < magnitude f → refused 3 ≡ read_operand image at op name
      unfolding read_name
      past k = rw (← behind l, ← e) (simp (n, lt-ltb (length image) (at + 9 + magnitude f) (omega (arith, long, rest_long))))

      -- a part as long as the field says, by its check
      pub found : (x : List ℕ) (g : Bool) → magnitude f ≤ length b → x ≡ slice_range b 0 (magnitude f) → name_ok x ≡ g
          → cond g (reads (named op (at + 9) (magnitude f)) (9 + magnitude f)) (refused 4) ≡ read_operand image at op name
      unfolding read_name
      found x g k t c =
          let y : x ≡ part image (at + 9) (magnitude f) = rw (t, sub-zero, r) (part_is (magnitude f)) in
          rw (← behind l, ← e) (simp (n, le-ltb (length image) (at + 9 + magnitude f) (omega (arith, long, rest_long)), ← y, c))
