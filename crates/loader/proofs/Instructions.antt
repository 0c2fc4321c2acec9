-- The code's answer for one instruction more, by its tests. Assumes nothing.
use Prim.Native.Nat.{ℕ, ◌+◌, ◌<◌, ◌≤◌}
use mathlib.Core.Path.{◌≡◌, ap, sym, ◌∙◌}
use mathlib.Core.List.{List, [], ◌∷◌, ◌++◌}
use native.Mathlib.Omega.{arith}
use lib.ListN.{length}
use Rattle.std.specs.Prelude.{Ok, Err}
use Rattle.std.specs.Bool.{then_some}
use borrow.Author.Tests.{eq-eqb, ne_eqb, le-leb, lt-leb}
use Rattle.inst.specs.declared.Inst.{Inst}
use Rattle.inst.specs.Records.{part, same}
use Rattle.inst_decode.specs.Decode.{refused, reads, from_bytes}
use Rattle.inst_decode.proofs.Facts.{read_in_lem}
use Rattle.machine.specs.Limits.{inst_limit, label_records}
use Rattle.machine.specs.Load.{start_name, linked, Scan, scan_one}
use Rattle.loader.specs.declared.reading.Counts.{Counts}
use Rattle.loader.specs.Reading.{counts_of, counted, labelled, next_of, Further}
use Rattle.loader.proofs.Scans.{counts_plain, counts_label}

-- of a scan s, of which the code keeps c
module _ (image : List ℕ) (c : Counts) (s : Scan) (e : c ≡ counts_of image s) where
  at_is : c.at ≡ s.at
  unfolding counts_of
  at_is = ap (λ (x : Counts). x.at) e

  insts_is : c.insts ≡ length s.insts
  unfolding counts_of
  insts_is = ap (λ (x : Counts). x.insts) e

  labels_is : c.labels ≡ length s.labels
  unfolding counts_of
  labels_is = ap (λ (x : Counts). x.labels) e

  pub next_refused : (n : ℕ) → from_bytes image c.at ≡ refused n → Err n ≡ next_of image (scan_one s (from_bytes image s.at))
  unfolding next_of scan_one
  next_refused n f = simp (← at_is, f)

  module _ (i : Inst) (size : ℕ) (f : from_bytes image c.at ≡ reads i size) where
    read_is : from_bytes image s.at ≡ reads i size
    read_is = ap (from_bytes image) (sym at_is) ∙ f

    pub next_five : inst_limit ≤ c.insts → Err 5 ≡ next_of image (scan_one s (from_bytes image s.at))
    unfolding next_of scan_one
    next_five h = simp (read_is, le-leb inst_limit (length s.insts) (rw insts_is at h))

    pub next_six : c.insts < inst_limit → i.typ ≡ 21 → label_records ≤ c.labels → Err 6 ≡ next_of image (scan_one s (from_bytes image s.at))
    unfolding next_of scan_one
    next_six h k l =
        simp (read_is, lt-leb inst_limit (length s.insts) (rw insts_is at h), eq-eqb _ _ k, le-leb label_records (length s.labels) (rw labels_is at l))

    pub next_plain : c.insts < inst_limit → (i.typ ≡ 21 → ⊥) → Ok (counted c i.typ size) ≡ next_of image (scan_one s (from_bytes image s.at))
    unfolding next_of scan_one
    next_plain h k =
        simp (read_is, lt-leb inst_limit (length s.insts) (rw insts_is at h), ne_eqb _ _ k, counts_plain, e)

    label_kept : 0 < length s.labels
        → labelled (counted c i.typ size) (then_some (same start_name (part image i.start i.len)) c.insts)
        ≡ counts_of image (record { at = s.at + size; insts = s.insts ++ (i ∷ []); labels = linked i (length s.insts) s.labels })
    unfolding counts_of
    label_kept z =
        ap (λ (x : Counts). labelled (counted x i.typ size) (then_some (same start_name (part image i.start i.len)) x.insts)) e
        ∙ sym (counts_label image s.at s.insts s.labels i size z)

    pub next_label : 0 < length s.labels → c.insts < inst_limit → i.typ ≡ 21 → c.labels < label_records
        → Ok (labelled (counted c i.typ size) (then_some (same start_name (part image i.start i.len)) c.insts)) ≡ next_of image (scan_one s (from_bytes image s.at))
    unfolding next_of scan_one
    next_label z h k l =
        simp (read_is, lt-leb inst_limit (length s.insts) (rw insts_is at h), eq-eqb _ _ k, lt-leb label_records (length s.labels) (rw labels_is at l))
        (ap Ok (label_kept z))

-- the bounds of what is kept then
pub further_at : (image : List ℕ) (c : Counts) (i : Inst) (size : ℕ) → from_bytes image c.at ≡ reads i size → c.insts < inst_limit → (d : Counts) → d.at ≡ c.at + size
    → d.insts ≡ c.insts + 1 → Further (length image) c d
further_at image c i size f h d a n =
    let r = read_in_lem image c.at i size f in
    let k = r.inside in
    record { inside = omega (arith, k); moves = omega (arith, r.moves); one_more = n; insts_fit = omega arith }
