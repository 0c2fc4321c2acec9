-- Laws of a list of numbers as a list of records, for any record of four numbers. Assumes nothing.
use Prim.Native.Nat.{ℕ, zero, suc, ◌+◌, ◌*◌, ◌/◌, ◌<◌, ◌≤◌}
use mathlib.Core.Path.{◌≡◌, refl, ap, sym, ◌∙◌}
use mathlib.Core.List.{List, [], ◌∷◌, ◌++◌}
use native.Mathlib.Nat.{suc-add}
use native.Mathlib.Omega.{arith}
use lib.ListN.{length, get_or, set}
use lib.Seq.{sets, length-sets}
use Rattle.inst.specs.declared.Inst.{Inst}
use Rattle.machine.specs.declared.Label.{Label}
use Rattle.tables.specs.Tables.{records_of, inst, label, numbers_of, inst_numbers, label_numbers}

fourth : (i : ℕ) → suc i * 4 ≡ suc (suc (suc (suc (i * 4))))
fourth i = omega arith

-- stores behind the first number, and behind the first record
pub sets_behind : {A : Type 0} (x : A) (l vs : List A) (i : ℕ) → sets (x ∷ l) (suc i) vs ≡ x ∷ sets l i vs
sets_behind x l [] i = refl
sets_behind x l (v ∷ vs) i = sets_behind x (set l i v) vs (suc i)

pub sets_rest : (a b c d : ℕ) (l vs : List ℕ) → sets (a ∷ b ∷ c ∷ d ∷ l) 4 vs ≡ a ∷ b ∷ c ∷ d ∷ sets l 0 vs
sets_rest a b c d l vs =
    sets_behind a _ vs 3
    ∙ rw (sets_behind b _ vs 2, sets_behind c _ vs 1, sets_behind d l vs 0)

module _ {A : Type 0} (make : ℕ → ℕ → ℕ → ℕ → A) where
  -- a table's entries
  pub length_records : (xs : List ℕ) → length (records_of make xs) ≡ length xs / 4
  unfolding records_of
  length_records [] = refl
  length_records (a ∷ []) = refl
  length_records (a ∷ b ∷ []) = refl
  length_records (a ∷ b ∷ c ∷ []) = refl
  length_records (a ∷ b ∷ c ∷ d ∷ xs) = let e = length_records xs in omega arith

  -- record i
  pub record_at : (xs : List ℕ) (i : ℕ) (d : A) → i * 4 + 4 ≤ length xs
      → get_or (records_of make xs) i d ≡ make (get_or xs (i * 4) 0) (get_or xs (i * 4 + 1) 0) (get_or xs (i * 4 + 2) 0) (get_or xs (i * 4 + 3) 0)
  unfolding records_of
  record_at [] i d h = absurd (omega arith)
  record_at (a ∷ []) i d h = absurd (omega arith)
  record_at (a ∷ b ∷ []) i d h = absurd (omega arith)
  record_at (a ∷ b ∷ c ∷ []) i d h = absurd (omega arith)
  record_at (a ∷ b ∷ c ∷ e ∷ xs) zero d h = refl
  record_at (a ∷ b ∷ c ∷ e ∷ xs) (suc i) d h = simp (fourth, suc-add) (record_at xs i d (omega arith))

  -- too few numbers for a record
  no_record : (xs : List ℕ) → length xs < 4 → records_of make xs ≡ []
  unfolding records_of
  no_record [] h = refl
  no_record (a ∷ []) h = refl
  no_record (a ∷ b ∷ []) h = refl
  no_record (a ∷ b ∷ c ∷ []) h = refl
  no_record (a ∷ b ∷ c ∷ d ∷ xs) h = absurd (omega arith)

  -- a record stored
  pub record_set : (xs : List ℕ) (i a b c d : ℕ) → i * 4 + 4 ≤ length xs
      → records_of make (sets xs (i * 4) (a ∷ b ∷ c ∷ d ∷ [])) ≡ set (records_of make xs) i (make a b c d)
  unfolding records_of
  record_set [] i a b c d h = absurd (omega arith)
  record_set (x ∷ []) i a b c d h = absurd (omega arith)
  record_set (x ∷ y ∷ []) i a b c d h = absurd (omega arith)
  record_set (x ∷ y ∷ z ∷ []) i a b c d h = absurd (omega arith)
  record_set (x ∷ y ∷ z ∷ w ∷ xs) zero a b c d h = refl
  record_set (x ∷ y ∷ z ∷ w ∷ xs) (suc i) a b c d h = simp fourth (ap (λ rs. make x y z w ∷ rs) (record_set xs i a b c d (omega arith)))

-- a record type with its four numbers
module _ {A : Type 0} (make : ℕ → ℕ → ℕ → ℕ → A) (p q s t : A → ℕ) (same : (r : A) → make (p r) (q r) (s r) (t r) ≡ r) where
  abbrev four : A → List ℕ
  four r = p r ∷ q r ∷ s r ∷ t r ∷ []

  pub length_numbers : (rs : List A) → length (numbers_of four rs) ≡ 4 * length rs
  unfolding numbers_of
  length_numbers [] = refl
  length_numbers (r ∷ rs) = let e = length_numbers rs in omega arith

  pub numbers_append : (rs us : List A) → numbers_of four (rs ++ us) ≡ numbers_of four rs ++ numbers_of four us
  unfolding numbers_of
  numbers_append [] us = refl
  numbers_append (r ∷ rs) us = rw (numbers_append rs us)

  -- nothing is stored where there is no record
  sets_none : (rs : List A) (i : ℕ) → ◌≡◌ {A = List A} (sets [] i rs) []
  sets_none [] i = refl
  sets_none (r ∷ rs) i = sets_none rs (suc i)

  short : (rs : List A) (xs : List ℕ) → length xs < 4 → records_of make (sets xs 0 (numbers_of four rs)) ≡ sets (records_of make xs) 0 rs
  short rs xs h =
      no_record make _ (rw length-sets h) ∙ rw (no_record make xs h) (sym (sets_none rs 0))

  -- records stored from a table's front, as records and as numbers; also where they don't fit
  pub records_sets : (rs : List A) (xs : List ℕ) → records_of make (sets xs 0 (numbers_of four rs)) ≡ sets (records_of make xs) 0 rs
  unfolding records_of numbers_of
  records_sets [] xs = refl
  records_sets (r ∷ rs) (x ∷ y ∷ z ∷ w ∷ xs) =
      ap (records_of make) (sets_rest (p r) (q r) (s r) (t r) xs (numbers_of four rs))
      ∙ rw (same r, records_sets rs xs) (sym (sets_behind r (records_of make xs) rs 0))
  records_sets (r ∷ rs) [] = short (r ∷ rs) [] (omega arith)
  records_sets (r ∷ rs) (x ∷ []) = short (r ∷ rs) (x ∷ []) (omega arith)
  records_sets (r ∷ rs) (x ∷ y ∷ []) = short (r ∷ rs) (x ∷ y ∷ []) (omega arith)
  records_sets (r ∷ rs) (x ∷ y ∷ z ∷ []) = short (r ∷ rs) (x ∷ y ∷ z ∷ []) (omega arith)

-- the two tables
pub insts_append : (is js : List Inst) → numbers_of inst_numbers (is ++ js) ≡ numbers_of inst_numbers is ++ numbers_of inst_numbers js
insts_append = numbers_append inst (λ i. i.typ) (λ i. i.val) (λ i. i.start) (λ i. i.len) (λ _. refl)

pub labels_append : (ls ks : List Label) → numbers_of label_numbers (ls ++ ks) ≡ numbers_of label_numbers ls ++ numbers_of label_numbers ks
labels_append = numbers_append label (λ l. l.start) (λ l. l.len) (λ l. l.target) (λ l. l.next) (λ _. refl)
