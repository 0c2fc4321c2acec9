-- What `runimage` does with an image, as document 01 has it: the load, 10,000 steps in all, and what is printed.
use Rattle.std.specs.Prelude.{ℕ, zero, suc, ◌+◌, ◌*◌, ◌-◌, Bool, true, false, List, ◌++◌, eqb, replicate}
use Rattle.inst.specs.declared.Inst.{Inst}
use Rattle.machine.specs.declared.Machine.{Machine}
use Rattle.machine.specs.declared.Label.{Label}
use Rattle.machine.specs.Ending.{Ending, Halted, Limit, Number}
use Rattle.machine.specs.Limits.{inst_limit, label_records}
use Rattle.machine.specs.Load.{Load, rejects, accepts, load, fresh}
use Rattle.machine.specs.Lookup.{Program}
use Rattle.machine.specs.Change.{height_of_calls}
use Rattle.machine.specs.Run.{Course, course}
use Rattle.machine.specs.Statements.{loaded_program}
use Rattle.tables.specs.Tables.{insts_of, labels_of}
use Rattle.report.specs.Text.{cell_lines, end_line, refused_line}

-- the run ended with 33
unfoldable pub is_full : Ending → Bool
is_full Halted = false
is_full Limit = false
is_full (Number n) = eqb n 33

-- one run, and another behind it from the machine that it left
abbrev pub joined : Course → Course → Course
joined r s = record { machine = s.machine; ending = s.ending; steps = r.steps + s.steps; cells = r.cells ++ s.cells }

-- After 33 it goes on with the buffer emptied, for the steps that are left of the limit
unfoldable pub continued : (ℕ → Machine → Course) → ℕ → Course → Bool → Course
continued rest limit r true = joined r (rest (limit - r.steps) r.machine)
continued rest limit r false = r

-- The runs of `limit` steps in all with a buffer of `room` slots, joined. Each that ends with 33 took a step, so there are at most as many more as steps
unfoldable pub in_all : ℕ → Program → ℕ → ℕ → Machine → Course
in_all zero p room limit m = course p limit room m
in_all (suc more) p room limit m =
    let r = course p limit room m in continued (in_all more p room) limit r (is_full r.ending)

-- each dumped cell, then ending, steps in all, pointer, height, calls
unfoldable pub report : Course → List ℕ
report r =
    cell_lines r.cells ++ end_line r.ending r.steps r.machine.ip r.machine.height (height_of_calls r.machine)

abbrev pub steps_in_all : ℕ
steps_in_all = 10000

-- the buffer's slots: any number above 0 prints the same (Theorems.antt)
abbrev pub dump_room : ℕ
dump_room = 64

-- the tables that it lends, as short as a load takes them: records of 32 bytes, all 0
abbrev pub empty_insts : List ℕ
empty_insts = replicate (inst_limit * 32) 0

abbrev pub empty_labels : List ℕ
empty_labels = replicate (label_records * 32) 0

-- a text's room: a line of each cell and the last line
abbrev pub text_size : ℕ
text_size = 170131

-- a refused load prints `refused` and its number
unfoldable pub printed_of : List ℕ → List Inst → List Label → Load → List ℕ
printed_of image insts labels (rejects n) = refused_line n
printed_of image insts labels (accepts l) = report (in_all steps_in_all (loaded_program image insts labels l) dump_room steps_in_all (fresh l))

-- with tables of its own as they are lent
abbrev pub printed_with : List ℕ → List ℕ → List ℕ → List ℕ
printed_with image insts labels = printed_of image (insts_of insts) (labels_of labels) (load image (insts_of insts) (labels_of labels))

unfoldable pub printed : List ℕ → List ℕ
printed image = printed_with image empty_insts empty_labels
