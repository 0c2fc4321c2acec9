-- The pass that links the labels of a filled instruction table: the label record that comes next, and its link.
use Rattle.std.specs.Prelude.{ℕ, ◌+◌, ◌*◌, ◌≤◌, ◌<◌, ◌≡◌, cond, Option, Some, None, MatchOption, List, [], ◌∷◌, ◌++◌, take, drop}
use Rattle.inst.specs.declared.Inst.{Inst}
use Rattle.machine.specs.declared.Label.{Label}
use Rattle.machine.specs.Load.{is_label, head}
use Rattle.tables.specs.Tables.{label, number_at, insts_of}
use Rattle.loader.specs.declared.labels.Linking.{Linking}

-- the head comes first
abbrev pub head_link : ℕ → Linking
head_link labels = record { index = 0; label = head 0; passed = 0; labels = labels }

-- the label i, which is instruction n, at the index behind l's; it leads to l's record
abbrev pub label_link : Linking → ℕ → Inst → Linking
label_link l n i = record { index = l.index + 1; label = label i.start i.len n l.index; passed = n + 1; labels = l.labels }

-- the first label among the instructions from n on
unfoldable pub next_link : Linking → ℕ → List Inst → Option Linking
next_link l n [] = None
next_link l n (i ∷ is) = cond (is_label i) (Some (label_link l n i)) (next_link l (n + 1) is)

-- whether record n of an instruction table is a label, by its first byte; the first one of `count` records from `from` on
abbrev pub IsLabel : List ℕ → ℕ → Type 0
IsLabel insts n = number_at insts (n * 4) ≡ 21

abbrev pub NextLabel : List ℕ → ℕ → ℕ → Option ℕ → Type 0
NextLabel insts count from o =
    MatchOption o ((k : ℕ) → from ≤ k → k < count → IsLabel insts k → ⊥)
    (λ n. (from ≤ n) × (n < count) × IsLabel insts n × ((k : ℕ) → from ≤ k → k < n → IsLabel insts k → ⊥))

-- the table's first `count` instructions are what l passes: behind the last label record there is no label
pub record Covers (insts : List ℕ) (count : ℕ) (l : Linking) : Type 0 where
  pub index_low : l.index ≤ l.passed
  pub one_of : l.index < l.labels
  pub all_linked : l.index + 1 ≡ l.labels → next_link l l.passed (drop l.passed (take count (insts_of insts))) ≡ None

-- l linked behind the label records before it, and the head to it; the first record is the head itself
unfoldable pub linked_on : Linking → List Label → List Label
linked_on l ls = head l.index ∷ drop 1 (ls ++ (l.label ∷ []))
