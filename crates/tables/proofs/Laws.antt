-- Laws of a byte slice as a table of records. Assumes nothing.
use Prim.Native.Nat.{ℕ, ◌+◌, ◌*◌, ◌/◌, ◌≤◌}
use mathlib.Core.Path.{◌≡◌, refl, ap, ◌∙◌}
use mathlib.Core.List.{List, ◌++◌}
use native.Mathlib.Omega.{arith}
use lib.ListN.{length, get_or}
use lib.Seq.{sets}
use Rattle.inst.specs.declared.Inst.{Inst}
use Rattle.machine.specs.declared.Label.{Label}
use Rattle.tables.specs.Tables.{numbers_in, number_at, records_of, inst, label, insts_of, labels_of, bytes_of, numbers_of, inst_numbers, label_numbers, inst_bytes, label_bytes}
use Rattle.tables.proofs.Numbers as numbers
use Rattle.tables.proofs.Bytes.{length_numbers_in, length_bytes, bytes_append, numbers_sets}

module _ {A : Type 0} (make : ℕ → ℕ → ℕ → ℕ → A) where
  pub length_records : (bs : List ℕ) → length (records_of make (numbers_in bs)) ≡ length bs / 32
  length_records bs = let p = numbers.length_records make (numbers_in bs) in let q = length_numbers_in bs in omega arith

  pub record_at : (bs : List ℕ) (i : ℕ) (d : A) → i * 32 + 32 ≤ length bs
      → get_or (records_of make (numbers_in bs)) i d ≡ make (number_at bs (i * 4)) (number_at bs (i * 4 + 1)) (number_at bs (i * 4 + 2)) (number_at bs (i * 4 + 3))
  record_at bs i d h = let q = length_numbers_in bs in numbers.record_at make (numbers_in bs) i d (omega arith)

-- the two tables
pub length_insts : (is : List Inst) → length (inst_bytes is) ≡ 32 * length is
length_insts is =
    let p = numbers.length_numbers inst (λ i. i.typ) (λ i. i.val) (λ i. i.start) (λ i. i.len) (λ _. refl) is in
    let q = length_bytes (numbers_of inst_numbers is) in
    omega arith

pub length_labels : (ls : List Label) → length (label_bytes ls) ≡ 32 * length ls
length_labels ls =
    let p = numbers.length_numbers label (λ l. l.start) (λ l. l.len) (λ l. l.target) (λ l. l.next) (λ _. refl) ls in
    let q = length_bytes (numbers_of label_numbers ls) in
    omega arith

pub insts_append : (is js : List Inst) → inst_bytes (is ++ js) ≡ inst_bytes is ++ inst_bytes js
insts_append is js = ap bytes_of (numbers.insts_append is js) ∙ bytes_append _ _

pub labels_append : (ls ks : List Label) → label_bytes (ls ++ ks) ≡ label_bytes ls ++ label_bytes ks
labels_append ls ks = ap bytes_of (numbers.labels_append ls ks) ∙ bytes_append _ _

pub insts_sets : (is : List Inst) (bs : List ℕ) → insts_of (sets bs 0 (inst_bytes is)) ≡ sets (insts_of bs) 0 is
insts_sets is bs = ap (records_of inst) (numbers_sets (numbers_of inst_numbers is) bs 0) ∙ numbers.records_sets inst (λ i. i.typ) (λ i. i.val) (λ i. i.start) (λ i. i.len) (λ _. refl) is (numbers_in bs)

pub labels_sets : (ls : List Label) (bs : List ℕ) → labels_of (sets bs 0 (label_bytes ls)) ≡ sets (labels_of bs) 0 ls
labels_sets ls bs = ap (records_of label) (numbers_sets (numbers_of label_numbers ls) bs 0) ∙ numbers.records_sets label (λ l. l.start) (λ l. l.len) (λ l. l.target) (λ l. l.next) (λ _. refl) ls (numbers_in bs)
