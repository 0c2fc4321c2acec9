-- Where a record's parts lie in the file, by README.md's table: one part behind the other, and the next record behind them.
use Rattle.std.specs.Prelude.{ℕ, ◌≡◌, ◌≢◌, ◌/◌, ◌%◌, ◌<◌, List, [], ◌∷◌, ◌++◌, length}
use Rattle.std.specs.Int.{w16, to_le_bytes}
use Rattle.digests.specs.declared.Recorded.{Recorded}
use Rattle.digests.specs.declared.Recorded.TheVariants.{Refused, Steps}
use Rattle.replay.specs.declared.Record.{Record}

-- what was recorded, as it is written: the number of a refusal; or 0, how many digests, and each
abbrev pub recorded_bytes : Recorded → List ℕ
recorded_bytes (Refused number) = number ∷ []
recorded_bytes (Steps digests) = 0 ∷ (to_le_bytes w16 (length digests.now / 4) ++ digests.now)

-- what can be written so: a number that isn't 0; whole digests, and no more than two bytes can say
abbrev pub IsWritable : Recorded → Type 0
IsWritable (Refused number) = number ≢ 0
IsWritable (Steps digests) = (length digests.now % 4 ≡ 0) × (length digests.now / 4 < 65536)

-- what was recorded stands at the front of the bytes, and `rest` behind it
pub record RecordedLies (bytes : List ℕ) (recorded : Recorded) (rest : List ℕ) : Type 0 where
  pub writable : IsWritable recorded
  pub whole : bytes ≡ recorded_bytes recorded ++ rest

-- a record stands there so: the image's length in two bytes, the image, and what was recorded of it
pub record Lies (bytes : List ℕ) (r : Record) (rest : List ℕ) : Type 0 where
  pub image_short : length r.image.now < 65536
  pub writable : IsWritable r.recorded
  pub whole : bytes ≡ to_le_bytes w16 (length r.image.now) ++ r.image.now ++ recorded_bytes r.recorded ++ rest
