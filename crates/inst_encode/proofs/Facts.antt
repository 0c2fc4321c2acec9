-- How long a record's bytes are. Assumes nothing.
use Prim.Native.Nat.{ℕ, zero, suc, ◌+◌, ◌/◌, ◌≤◌, ◌<◌}
use mathlib.Core.Path.{◌≡◌, refl, ◌∙◌, ap, sym}
use mathlib.Core.Bool.{Bool, true, false}
use mathlib.Core.List.{List}
use native.Mathlib.Omega.{arith}
use lib.Dec.{eqb}
use lib.ListN.{length}
use lib.Seq.{length-slice}
use borrow.Author.Tests.{leb-true}
use Rattle.inst.specs.declared.Inst.{Inst}
use Rattle.inst.specs.Forms.{Form, none, eight, one, name, undefined, form_of, form_at, means}
use Rattle.inst.specs.declared.forms.Form.{Form as Kind}
use Rattle.std.specs.Prelude.{Option, Some, None, IsSome, MatchOption}
use Rattle.std.specs.Borrow.{Bor}
use Rattle.inst.specs.Records.{part, name_in, fits, well_formed}
use Rattle.inst.proofs.Laws.{never, and_left, and_right}
use Rattle.inst_encode.specs.Encode.{bytes_of, operand_bytes, size_by, as_bytes, inst_length}

pub length_bytes : (k n : ℕ) → length (bytes_of k n) ≡ k
unfolding bytes_of
length_bytes zero n = refl
length_bytes (suc k) n = ap suc (length_bytes k (n / 256))

part_length : (image : List ℕ) (start len : ℕ) → start + len ≤ length image → length (part image start len) ≡ len
part_length image start len h = rw (length-slice start (start + len) image h) (omega arith)

-- no encoding is empty
pub size_some : (image : List ℕ) (i : Inst) → 0 < length (as_bytes image i)
unfolding as_bytes
size_some image i = omega arith

-- the part that the code finds
module _ (image : List ℕ) (start len : ℕ) where
  abbrev Parts : Option (Bor (List ℕ)) → Type 0
  Parts r = MatchOption r (length image < start + len) (λ p. (start + len ≤ length image) × (p.now ≡ part image start len))

  pub is_there : (r : Option (Bor (List ℕ))) → Parts r → start + len ≤ length image → IsSome r
  is_there None m h = absurd (omega arith)
  is_there (Some x) m h = refl

  pub part_is : (r : Option (Bor (List ℕ))) (x : Bor (List ℕ)) → Parts r → r ≡ Some x → (x.now ≡ part image start len) × (length x.now ≡ len)
  part_is r x m e = let p = rw e at m in (p.1, ap length p.1 ∙ part_length image start len p.0)

module _ (image : List ℕ) (i : Inst) where
  Sized : Form → Type 0
  Sized f = (suc (length (operand_bytes image i f)) ≡ size_by f i.len) × (size_by f i.len ≤ 9 + length image)

  sized : (f : Form) → fits image i f ≡ true → Sized f
  unfolding Sized fits name_in operand_bytes bytes_of size_by
  sized none w = (refl, omega arith)
  sized eight w = (refl, omega arith)
  sized one w = (refl, omega arith)
  sized name w =
      let h = leb-true _ _ (and_left _ _ (and_right (eqb i.val 0) _ w)) in
      let l = part_length image i.start i.len h in
      (omega arith, omega arith)
  sized undefined w = never w

  pub size_is : well_formed image i ≡ true → length (as_bytes image i) ≡ inst_length i
  unfolding Sized well_formed as_bytes
  size_is w = (sized (form_of i.typ) w).0

  pub size_below : well_formed image i ≡ true → inst_length i ≤ 9 + length image
  unfolding Sized well_formed
  size_below w = (sized (form_of i.typ) w).1

  pub is_found : (r : Option Kind) → means r ≡ form_of i.typ → well_formed image i ≡ true → IsSome r
  unfolding means well_formed fits
  is_found None e w = never (rw (← e) at w)
  is_found (Some f) e w = refl

  -- what the code finds of both
  pub ill : means None ≡ form_of i.typ → well_formed image i ≡ false
  unfolding means well_formed fits
  ill e = rw (← e)

  pub formed : (f : Kind) (b c : Bool) → means (Some f) ≡ form_of i.typ → b ≡ fits image i (form_at f) → b ≡ c → well_formed image i ≡ c
  unfolding means well_formed
  formed f b c e h k = ap (fits image i) (sym e) ∙ sym h ∙ k
