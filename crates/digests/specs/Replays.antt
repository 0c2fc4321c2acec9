-- What an image's record comes to: the load and each step, held to what was recorded.
use Rattle.std.specs.Prelude.{ℕ, ◌≡◌, false, ◌&&◌, List, [], eqb, length}
use Rattle.tables.specs.Tables.{program, records_of}
use Rattle.loader.specs.Loading.{Reply, refuses, starts, reply_of, load_of, insts_left, labels_left}
use Rattle.digests.specs.declared.Recorded.{Recorded}
use Rattle.digests.specs.declared.Recorded.TheVariants.{Refused, Steps}
use Rattle.digests.specs.declared.Replayed.{Replayed}
use Rattle.digests.specs.Digests.{agreeing, word}

-- A refused image has its number recorded; an accepted one 0, and the digests of its first steps
unfoldable pub replayed : (image insts labels : List ℕ) → ℕ → List ℕ → Reply → Replayed
replayed image insts labels number ds (refuses n) = record { same = eqb n number; steps = 0 }
replayed image insts labels number ds (starts m count) =
    let steps = agreeing (program image insts labels count) m ds in
    record { same = eqb number 0 && eqb steps (length ds); steps = steps }

-- what a call answers, and leaves in the two tables
pub record ReplayImage (image : List ℕ) (number : ℕ) (recorded insts labels : List ℕ) (r : Replayed) (insts' labels' : List ℕ) : Type 0 where
  pub answers : r ≡ replayed image insts' labels' number (records_of word recorded) (reply_of (load_of image insts labels))
  pub insts_are : insts' ≡ insts_left (load_of image insts labels) insts
  pub labels_are : labels' ≡ labels_left (load_of image insts labels) labels

-- the bytes of the digests: a refused image has none
abbrev pub digest_bytes : Recorded → List ℕ
digest_bytes (Refused number) = []
digest_bytes (Steps digests) = digests.now

-- The same, where a number or digests were recorded. Where one was recorded and the other is the case, they differ
unfoldable pub replayed_recorded : (image insts labels : List ℕ) → Recorded → Reply → Replayed
replayed_recorded image insts labels (Refused number) (refuses n) = record { same = eqb n number; steps = 0 }
replayed_recorded image insts labels (Refused number) (starts m count) = record { same = false; steps = 0 }
replayed_recorded image insts labels (Steps digests) (refuses n) = record { same = false; steps = 0 }
replayed_recorded image insts labels (Steps digests) (starts m count) =
    let ds = records_of word digests.now in
    let steps = agreeing (program image insts labels count) m ds in
    record { same = eqb steps (length ds); steps = steps }

pub record ReplayRecorded (image : List ℕ) (recorded : Recorded) (insts labels : List ℕ) (r : Replayed) (insts' labels' : List ℕ) : Type 0 where
  pub answers : r ≡ replayed_recorded image insts' labels' recorded (reply_of (load_of image insts labels))
  pub insts_are : insts' ≡ insts_left (load_of image insts labels) insts
  pub labels_are : labels' ≡ labels_left (load_of image insts labels) labels
