-- The encoder's answer by its tests. Assumes nothing.
use Prim.Native.Nat.{ℕ, ◌+◌, ◌-◌, ◌<◌, ◌≤◌}
use mathlib.Core.Path.{◌≡◌, refl, sym, ap, ◌∙◌}
use mathlib.Core.Bool.{Bool, true, false, cond, ◌&&◌, and-false}
use mathlib.Core.List.{List}
use native.Mathlib.Omega.{arith}
use lib.Dec.{leb}
use lib.ListN.{length, take}
use borrow.Author.Tests.{leb-true, leb-false, le-leb, lt-leb}
use Rattle.inst.specs.declared.Inst.{Inst}
use Rattle.inst.proofs.Laws.{and_left, and_right}
use Rattle.machine.specs.Encode.{all_well_formed, bytes_of_all, Encoded, unencoded, encoded, in_room, size_of}
use Rattle.encoder.specs.declared.EncodeError.{EncodeError}
use Rattle.encoder.specs.Encoder.{number_of, means, Fits}
use Rattle.std.specs.Prelude.{Option, Some, None, SomeIff, Result, Ok, Err, ok_or}

-- a number is no size
pub other : {A : Type 0} (m n : ℕ) → unencoded m ≡ encoded n → A
other m n e = let z : ◌≡◌ {A = ℕ} 0 1 = cc in absurd (omega arith)

-- the size of what answers one
abbrev pub number_in : Encoded → ℕ
number_in (unencoded n) = n
number_in (encoded n) = n

pub means_size : (r : Result ℕ EncodeError) (n : ℕ) → means r ≡ encoded n → r ≡ Ok n
unfolding means
means_size (Err e) n h = other (number_of e) n h
means_size (Ok m) n h = ap Ok (ap number_in h)

-- what the exit of a `?` behind ok_or returns
pub exit : {T A E : Type 0} {r : Result T E} {o : Option A} {e x : E} → (y : E) × (r ≡ Err y) × (y ≡ e) → o ≡ None → Err e ≡ ok_or o x → r ≡ Err x
exit {e = e} {x = x} p n v = let k = rw n at v in let q : e ≡ x = cc in p.1 ∙ ap Err (p.2 ∙ q)

-- a length where a test holds
pub no_len : (b : Bool) (n : ℕ) → None ≡ cond b (Some n) None → b ≡ false
no_len true n e = cc
no_len false n e = refl

pub some_len : (b : Bool) (n k : ℕ) → Some k ≡ cond b (Some n) None → (b ≡ true) × (k ≡ n)
some_len true n k e = (refl, cc)
some_len false n k e = cc

-- by the room
module _ (n room : ℕ) where
  in_room_lem : n ≤ room → in_room room (encoded n) ≡ encoded n
  unfolding in_room
  in_room_lem h = rw (le-leb n room h)

  pub past_room : room < n → in_room room (encoded n) ≡ unencoded 10
  unfolding in_room
  past_room h = rw (lt-leb n room h)

  fits_by : (b : Bool) (m : ℕ) → leb n room ≡ b → encoded m ≡ cond b (encoded n) (unencoded 10) → (m ≡ n) × (n ≤ room)
  fits_by true m e h = (cc, leb-true n room e)
  fits_by false m e h = other 10 m (cc)

  fits_back : (m : ℕ) → encoded m ≡ in_room room (encoded n) → (m ≡ n) × (n ≤ room)
  unfolding in_room
  fits_back m h = fits_by (leb n room) m refl h

-- the room behind `len` bytes more
pub taken_none : (room n len : ℕ) → Fits room n None → Fits room (n + len) None
unfolding Fits
taken_none room n len f = omega arith

pub taken_some : (room n len left : ℕ) (r : Option ℕ) → Fits room n (Some left) → SomeIff r (len ≤ left) (left - len) → Fits room (n + len) r
unfolding Fits
taken_some room n len left None f h = by_room (leb len left) refl where
  by_room : (b : Bool) → leb len left ≡ b → room < n + len
  by_room true e = absurd (h (leb-true len left e))
  by_room false e = let l = leb-false len left e in omega arith
taken_some room n len left (Some x) f h = omega (arith, h.0, h.1)

-- what is left tells how much was taken
pub room_fits : (room n left : ℕ) → Fits room n (Some left) → encoded (room - left) ≡ in_room room (encoded n)
unfolding Fits
room_fits room n left f =
    let q : room - left ≡ n = omega arith in
    rw q (sym (in_room_lem n room (omega arith)))

pub room_passed : (room n : ℕ) → Fits room n None → unencoded 10 ≡ in_room room (encoded n)
unfolding Fits
room_passed room n f = sym (past_room n room f)

-- 9, or the size
module _ (image : List ℕ) (is : List Inst) (count : ℕ) where
  abbrev pub size : ℕ
  size = length (bytes_of_all image (take count is))

  pub past : length is < count → size_of image is count ≡ unencoded 9
  unfolding size_of
  past h = rw (lt-leb count (length is) h)

  pub ill : all_well_formed image (take count is) ≡ false → size_of image is count ≡ unencoded 9
  unfolding size_of
  ill h = rw (h, and-false)

  pub whole : count ≤ length is → all_well_formed image (take count is) ≡ true → size_of image is count ≡ encoded size
  unfolding size_of
  whole h w = rw (le-leb count (length is) h, w)

  -- what is written may be written
  pub record Accepted (room : ℕ) : Type 0 where
    pub within : count ≤ length is
    pub well : all_well_formed image (take count is) ≡ true
    pub fits : size ≤ room

  accepted_by : (room : ℕ) (b : Bool) (n : ℕ) → (leb count (length is) && all_well_formed image (take count is)) ≡ b
      → encoded n ≡ in_room room (cond b (encoded size) (unencoded 9)) → Accepted room
  unfolding in_room
  accepted_by room true n e h =
      record { within = leb-true _ _ (and_left _ _ e); well = and_right (leb count (length is)) _ e; fits = (fits_back size room n h).1 }
  accepted_by room false n e h = other 9 n (cc)

  pub accepted : (room n : ℕ) → encoded n ≡ in_room room (size_of image is count) → Accepted room
  unfolding size_of
  accepted room n h = accepted_by room (leb count (length is) && all_well_formed image (take count is)) n refl h
