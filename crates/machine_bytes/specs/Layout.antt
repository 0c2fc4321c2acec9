-- A machine as bytes: one slice with its fields at fixed offsets, as docs/HOST.md lays them out. Each byte belongs to a field.
use Rattle.std.specs.Prelude.{ℕ, ◌+◌, ◌*◌, ◌≡◌, Bool, true, cond, ◌&&◌, List, [], ◌∷◌, ◌++◌, eqb, ltb, length, get_or}
use Rattle.std.proofs.Math.Seq.{slice}
use Rattle.word.specs.Words.{word}
use Rattle.machine.specs.declared.Machine.{Machine}
use Rattle.machine.specs.Limits.{stack_limit, call_limit, memory_size}
use Rattle.machine.specs.Change.{height_of_calls}
use Rattle.tables.specs.Tables.{numbers_in, bytes_of}

-- where each field begins, behind the data stack's slots, and the length of all
abbrev pub calls_at : ℕ
calls_at = stack_limit * 8

abbrev pub memory_at : ℕ
memory_at = calls_at + call_limit * 8

abbrev pub height_at : ℕ
height_at = memory_at + memory_size

abbrev pub call_height_at : ℕ
call_height_at = height_at + 8

abbrev pub ip_at : ℕ
ip_at = call_height_at + 8

abbrev pub flags_at : ℕ
flags_at = ip_at + 8

abbrev pub halted_at : ℕ
halted_at = flags_at + 1

abbrev pub machine_size : ℕ
machine_size = halted_at + 1

-- as long as a machine, and 0 or 1 for halted
unfoldable pub is_machine : List ℕ → Bool
is_machine bytes = eqb (length bytes) machine_size && ltb (get_or bytes halted_at 0) 2

-- the machine that bytes stand for
unfoldable pub machine_of : List ℕ → Machine
machine_of bytes =
    record {
      stack = numbers_in (slice 0 calls_at bytes);
      height = word bytes height_at;
      calls = numbers_in (slice calls_at memory_at bytes);
      call_height = word bytes call_height_at;
      memory = slice memory_at height_at bytes;
      flags = get_or bytes flags_at 0;
      ip = word bytes ip_at;
      halted = eqb (get_or bytes halted_at 0) 1;
    }

-- the bytes of a machine
unfoldable pub machine_bytes : Machine → List ℕ
machine_bytes m =
    bytes_of m.stack ++ bytes_of m.calls ++ m.memory ++ bytes_of (m.height ∷ height_of_calls m ∷ m.ip ∷ []) ++ (m.flags ∷ cond m.halted 1 0 ∷ [])

-- arrays of the sizes that the code's types give them
pub record Sized (m : Machine) : Type 0 where
  pub stack_long : length m.stack ≡ stack_limit
  pub calls_long : length m.calls ≡ call_limit
  pub memory_long : length m.memory ≡ memory_size

-- the bytes of a machine are a machine's, and stand for it
pub record Crosses : Type 0 where
  pub is_a_machine : (m : Machine) → Sized m → is_machine (machine_bytes m) ≡ true
  pub comes_back : (m : Machine) → Sized m → machine_of (machine_bytes m) ≡ m
