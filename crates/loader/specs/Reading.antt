-- What the code keeps of document 01's scan, and its answer for one instruction more.
use Rattle.std.specs.Prelude.{ℕ, ◌+◌, ◌≤◌, ◌<◌, ◌≡◌, ◌||◌, Option, Some, None, Result, Ok, Err, List, eqb, length, drop}
use Rattle.std.specs.Option.{option_or}
use Rattle.machine.specs.Limits.{inst_limit}
use Rattle.machine.specs.Load.{start_name, Scan, Scanned, stops, goes, Entry, no_entry, entry, last_of, any_native, last_is_halt}
use Rattle.loader.specs.declared.reading.Counts.{Counts}

-- an entry as the code keeps it
unfoldable pub target_of : Entry → Option ℕ
target_of no_entry = None
target_of (entry t) = Some t

-- the entry as far as labels were read
abbrev pub entry_of : List ℕ → Scan → Entry
entry_of image s = last_of image start_name no_entry (drop 1 s.labels)

unfoldable pub counts_of : List ℕ → Scan → Counts
counts_of image s =
    record {
      at = s.at;
      insts = length s.insts;
      labels = length s.labels;
      start = target_of (entry_of image s);
      native = any_native s.insts;
      halt = last_is_halt s.insts;
    }

-- what is kept behind an instruction of this first byte and size, and behind a label; `start` is its target where it is `_start`
abbrev pub counted : Counts → ℕ → ℕ → Counts
counted c typ size =
    record {
      at = c.at + size;
      insts = c.insts + 1;
      labels = c.labels;
      start = c.start;
      native = c.native || eqb typ 37;
      halt = eqb typ 69;
    }

abbrev pub labelled : Counts → Option ℕ → Counts
labelled c start =
    record {
      at = c.at;
      insts = c.insts;
      labels = c.labels + 1;
      start = option_or start c.start;
      native = c.native;
      halt = c.halt;
    }

-- the code's answer for one instruction more, with the number for the refusal
unfoldable pub next_of : List ℕ → Scanned → Result Counts ℕ
next_of image (stops n) = Err n
next_of image (goes s) = Ok (counts_of image s)

-- the bounds that hold whatever was kept before: `size` is the image's
pub record Further (size : ℕ) (c d : Counts) : Type 0 where
  pub inside : d.at ≤ size
  pub moves : c.at < d.at
  pub one_more : d.insts ≡ c.insts + 1
  pub insts_fit : d.insts ≤ inst_limit
