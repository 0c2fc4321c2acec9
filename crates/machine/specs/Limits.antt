-- The sizes of document 01, each named once.
use Rattle.std.specs.Prelude.{ℕ}

-- both stacks, and the memory
abbrev pub stack_limit : ℕ
stack_limit = 1024

abbrev pub call_limit : ℕ
call_limit = 1024

abbrev pub memory_size : ℕ
memory_size = 1024

-- an image's bytes, its instructions, and the records of a label table: 512 definitions behind the head
abbrev pub image_limit : ℕ
image_limit = 16384

abbrev pub inst_limit : ℕ
inst_limit = 4096

abbrev pub label_records : ℕ
label_records = 513
