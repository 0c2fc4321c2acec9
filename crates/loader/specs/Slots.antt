-- A label table keeps its size, whatever records are stored. These are lemmas, and stand here and not in proofs/, since the laws of
-- the trait LabelSlot cite them, and what a source file names has to be in specs/. Assumes nothing.
use Rattle.std.specs.Prelude.{ℕ, ◌≡◌, List, [], length}
use Rattle.std.proofs.Common.{refl, ◌∙◌, sym}
use Rattle.std.proofs.lemmas.List.Edits.{sets}
use lib.Seq.{length-sets}
use Rattle.machine.specs.declared.Label.{Label}
use Rattle.tables.specs.Tables.{label, labels_of, bytes_of, numbers_of, label_bytes}
use Rattle.tables.proofs.Laws.{length_records}

pub no_bytes : label_bytes [] ≡ []
unfolding bytes_of numbers_of
no_bytes = refl

pub bytes_kept : (t : List ℕ) (ls : List Label) → length (labels_of (sets t 0 (label_bytes ls))) ≡ length (labels_of t)
bytes_kept t ls = length_records label (sets t 0 (label_bytes ls)) ∙ rw (length-sets t 0 (label_bytes ls)) (sym (length_records label t))

pub records_kept : (t ls : List Label) → length (sets t 0 ls) ≡ length t
records_kept t ls = length-sets t 0 ls
