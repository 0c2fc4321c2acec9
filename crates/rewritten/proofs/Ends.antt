-- How an image ends: its last instruction is HALT exactly where none is appended, and what the appended one is written and read as. Assumes nothing.
use Prim.Native.Nat.{ℕ, zero, suc, ◌+◌, ◌<◌}
use mathlib.Core.Path.{◌≡◌, refl, ap, sym, ◌∙◌}
use mathlib.Core.Logic.{◌⊎◌, inl, inr}
use mathlib.Core.Bool.{Bool, true, false, cond}
use mathlib.Core.List.{List, [], ◌∷◌, ◌++◌, append-nil}
use native.Mathlib.Nat.{suc_inj}
use native.Mathlib.Omega.{arith}
use lib.Dec.{eqb}
use lib.ListN.{length, get_or}
use borrow.Author.Tests.{eqb-true, lt-leb}
use Rattle.inst.specs.declared.Inst.{Inst}
use Rattle.inst.specs.Forms.{none, has_none, has_eight, has_one, has_name, form_of}
use Rattle.inst.specs.Records.{Bytes}
use Rattle.inst.proofs.Laws.{by_test, never}
use Rattle.inst_decode.specs.Decode.{reads, type_of, read_operand, from_bytes}
use Rattle.inst_decode.proofs.Facts.{read_in_lem}
use Rattle.inst_encode.specs.Encode.{operand_bytes, as_bytes}
use Rattle.machine.specs.Limits.{inst_limit}
use Rattle.machine.specs.Load.{is_halt, halt, Scan, goes, scan_one, last_is_halt, closed}
use Rattle.machine.specs.Encode.{bytes_of_all}
use Rattle.rewritten.specs.Rewritten.{next, EndsWithHalt}
use Rattle.rewritten.proofs.Instructions.{reads_again, reads_by, written_byte}
use Rattle.rewritten.proofs.Places.{one_reading, one_place, ReadSoFar}
use Rattle.rewritten.proofs.Scans.{Scans, done, more}
use Rattle.rewritten.proofs.Written.{number_at_end, inst_is, bytes_append}

-- the last of a list
last_at : (is : List Inst) (k : ℕ) → suc k ≡ length is → last_is_halt is ≡ is_halt (get_or is k halt)
unfolding last_is_halt
last_at [] k e = absurd (omega arith)
last_at (i ∷ []) zero e = refl
last_at (i ∷ []) (suc k) e = absurd (omega arith)
last_at (i ∷ j ∷ is) zero e = absurd (omega arith)
last_at (i ∷ j ∷ is) (suc k) e = last_at (j ∷ is) k (suc_inj e)

some_last : (is : List Inst) → last_is_halt is ≡ true → (k : ℕ) × (suc k ≡ length is)
unfolding last_is_halt
some_last [] e = never e
some_last (i ∷ is) e = (length is, refl)

-- a byte 69 with which an instruction begins is HALT
halt_form : form_of 69 ≡ none
unfolding form_of has_none has_eight has_one has_name
halt_form = refl

pub reads_halt : (image : List ℕ) (at : ℕ) → at < length image → get_or image at 0 ≡ 69 → from_bytes image at ≡ reads halt 1
unfolding read_operand
reads_halt image at h e = reads_by image at 69 none h e halt_form

type_69 : (op : ℕ) → type_of op ≡ 69 → op ≡ 69
unfolding type_of
type_69 op = by_test (λ t. t ≡ 69 → op ≡ 69) (eqb op 27) 46 op (λ _ e. absurd (omega arith)) (λ _ e. e)

-- what is read as HALT is that byte
halt_read : (image : List ℕ) (at : ℕ) (i : Inst) (size : ℕ) → Bytes image → from_bytes image at ≡ reads i size → is_halt i ≡ true → get_or image at 0 ≡ 69
unfolding as_bytes written_byte
halt_read image at i size bytes e h =
    let r = read_in_lem image at i size e in
    let a = (reads_again image at bytes i size e).written.bytes_are 0 r.moves in
    type_69 (get_or image at 0) (sym a ∙ eqb-true i.typ 69 h)

module _ (image : List ℕ) (bytes : Bytes image) (s : Scan) (listed : ReadSoFar image s) (to_end : s.at ≡ length image) where
  pub ends_with : last_is_halt s.insts ≡ true → EndsWithHalt image
  ends_with e =
      let z = some_last s.insts e in
      let k = z.0 in
      let h : k < length s.insts = omega (arith, z.1) in
      let r = listed.each k h in
      let b = halt_read image r.at _ r.size bytes r.is (sym (last_at s.insts k z.1) ∙ e) in
      let m = read_in_lem image r.at _ r.size r.is in
      let q = (one_reading image r.at r.at _ halt r.size 1 refl r.is (reads_halt image r.at (omega (arith, m.moves, m.inside)) b)).1 in
      let p = one_place image (suc k) (r.at + r.size) s.at (next k r.at r.size _ r.begins r.is) (rw z.1 listed.ends) in
      record { index = k; at = r.at; begins = r.begins; is_halt_lem = b; is_last = omega arith }

  pub last_halts : EndsWithHalt image → last_is_halt s.insts ≡ true
  last_halts e =
      let k = e.index in
      let q = reads_halt image e.at (omega (arith, e.is_last)) e.is_halt_lem in
      let r = inst_is image bytes s listed to_end k e.at halt 1 e.begins q in
      let n = next k e.at 1 halt e.begins q in
      let z = number_at_end image bytes s listed to_end (suc k) (e.at + 1) n (omega (arith, e.is_last)) in
      last_at s.insts k z ∙ ap is_halt r.1

-- ---- the appended HALT

-- what is appended to the instructions: nothing, or HALT
abbrev pub Tail : List Inst → List Inst → Type 0
Tail is t = ((last_is_halt is ≡ true) × (t ≡ [])) ⊎ ((last_is_halt is ≡ false) × (t ≡ halt ∷ []))

tail_by : (is : List Inst) (b : Bool) → last_is_halt is ≡ b → (t : List Inst) × (cond b is (is ++ (halt ∷ [])) ≡ is ++ t) × Tail is t
tail_by is true e = ([], sym (append-nil is), inl (e, refl))
tail_by is false e = (halt ∷ [], refl, inr (e, refl))

pub tail_of : (is : List Inst) → (t : List Inst) × (closed is ≡ is ++ t) × Tail is t
unfolding closed
tail_of is = tail_by is _ refl

-- HALT is one byte
pub halt_bytes : (image : List ℕ) → as_bytes image halt ≡ 69 ∷ []
unfolding as_bytes form_of has_none has_eight has_one has_name operand_bytes
halt_bytes image = refl

pub appended : (image : List ℕ) (is : List Inst) → bytes_of_all image (is ++ (halt ∷ [])) ≡ bytes_of_all image is ++ (69 ∷ [])
unfolding bytes_of_all
appended image is = bytes_append image is (halt ∷ []) ∙ ap (λ (l : List ℕ). bytes_of_all image is ++ (l ++ [])) (halt_bytes image)

-- a scan that stands before a last byte 69 takes it as HALT
abbrev pub closing : Scan → Scan
closing s = record { at = s.at + 1; insts = s.insts ++ (halt ∷ []); labels = s.labels }

adds_halt : (s : Scan) → length s.insts < inst_limit → scan_one s (reads halt 1) ≡ goes (closing s)
unfolding scan_one
adds_halt s h = rw (lt-leb inst_limit (length s.insts) h)

pub takes_halt : (w : List ℕ) (s : Scan) → s.at < length w → get_or w s.at 0 ≡ 69 → length s.insts < inst_limit → Scans w s (closing s)
takes_halt w s h e l = more s (closing s) (closing s) (record { inst = halt; size = 1; inside = h; is = reads_halt w s.at h e; goes_on = adds_halt s l }) (done (closing s))
