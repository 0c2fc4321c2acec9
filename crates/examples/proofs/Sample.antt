-- Document 01's printed image, loaded and run by the definitions with the limit and a buffer of its program runimage. Assumes nothing.
use Prim.Native.Nat.{ℕ}
use mathlib.Core.Path.{◌≡◌, refl}
use mathlib.Core.List.{List, [], ◌∷◌}
use lib.ListN.{replicate}
use Rattle.nan.specs.Cells as nan
use Rattle.integer.specs.Integers.{imul}
use Rattle.inst.specs.declared.Inst.{Inst}
use Rattle.inst.specs.Forms.{form_of, has_none, has_eight, has_one, has_name}
use Rattle.inst.specs.Records.{name_ok, name_in, fits, well_formed, same}
use Rattle.word.specs.Words.{little_endian}
use Rattle.inst_decode.specs.Decode as decode
use Rattle.machine.specs.declared.Label.{Label}
use Rattle.machine.specs.Ending.{Ending, Halted}
use Rattle.machine.specs.Load.{linked, scan_one, and_then, scan, last_of, any_native, last_is_halt, closed, Load, rejects, accepts, checked, entered, finished, loads, load, insts_after, labels_after, fresh}
use Rattle.machine.specs.Lookup.{walk, lookup_from, lookup}
use Rattle.machine.specs.Change.{height_of_calls, with_stack, moved, stopped}
use Rattle.machine.specs.Step.{◌must◌else◌then◌, op_of, number_of, push, of_cells, divides, integer_step, dump, exec, well_state, step}
use Rattle.machine.specs.Run.{is_ill, is_dump, before, taken, turn, course, Result, reported, run}
use Rattle.machine.specs.Statements.{loaded_program}

-- LABEL _start, PUSH 2, PUSH 3, IMUL, 27 1
image : List ℕ
image =
    0x15 ∷ 0x06 ∷ 0 ∷ 0 ∷ 0 ∷ 0 ∷ 0 ∷ 0 ∷ 0 ∷ 0x5F ∷ 0x73 ∷ 0x74 ∷ 0x61 ∷ 0x72 ∷ 0x74
    ∷ 0x01 ∷ 0x02 ∷ 0 ∷ 0 ∷ 0 ∷ 0 ∷ 0 ∷ 0xF2 ∷ 0x7F ∷ 0x01 ∷ 0x03 ∷ 0 ∷ 0 ∷ 0 ∷ 0 ∷ 0 ∷ 0xF2 ∷ 0x7F ∷ 0x07 ∷ 0x1B ∷ 0x01 ∷ []

insts : List Inst
insts = replicate 4096 (record { typ = 0; val = 0; start = 0; len = 0 })

labels : List Label
labels = replicate 513 (record { start = 0; len = 0; target = 0; next = 0 })

-- ending, steps, pointer, height, calls, cells dumped
record Line : Type 0 where
  ending : Ending
  steps : ℕ
  ip : ℕ
  height : ℕ
  calls : ℕ
  dumped : ℕ
  cell : List ℕ

line : Result → Line
line r =
    record {
      ending = r.ending;
      steps = r.steps;
      ip = r.machine.ip;
      height = r.machine.height;
      calls = height_of_calls r.machine;
      dumped = r.dumped;
      cell = r.buffer;
    }

ran : Load → Line
ran (rejects n) = record { ending = Halted; steps = 99; ip = 0; height = 0; calls = 0; dumped = 0; cell = [] }
ran (accepts l) = line (run (loaded_program image insts labels l) 10000 (0 ∷ []) (fresh l))

-- end halt steps 6 ip 5 height 1 calls 0, and one cell
sample : ran (load image insts labels)
    ≡ record { ending = Halted; steps = 6; ip = 5; height = 1; calls = 0; dumped = 1; cell = 0x7FF2000000000006 ∷ [] }
unfolding image insts labels line ran load loads same linked scan_one and_then scan last_of any_native last_is_halt closed checked entered finished decode.from_bytes decode.read_name decode.read_operand little_endian decode.type_of decode.is_negative form_of has_none has_eight has_one has_name name_ok name_in fits well_formed run reported course turn taken before is_ill is_dump step well_state exec push of_cells divides integer_step number_of dump ◌must◌else◌then◌ op_of walk lookup_from lookup with_stack moved stopped fresh loaded_program insts_after labels_after nan.type_of nan.tagged nan.value nan.modulo64 nan.signed nan.boxed imul
sample = refl
