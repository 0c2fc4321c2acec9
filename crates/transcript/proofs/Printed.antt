-- What is printed fits the text. Assumes nothing.
use Prim.Native.Nat.{ℕ, ◌≤◌}
use mathlib.Core.Path.{◌≡◌}
use mathlib.Core.List.{List}
use native.Mathlib.Omega.{arith}
use lib.Dec.{lit<}
use lib.ListN.{length, length-append}
use Rattle.inst.specs.declared.Inst.{Inst}
use Rattle.machine.specs.declared.Machine.{Machine}
use Rattle.machine.specs.declared.Label.{Label}
use Rattle.machine.specs.Load.{Load, rejects, accepts, fresh}
use Rattle.machine.specs.Lookup.{Program}
use Rattle.machine.specs.Change.{height_of_calls}
use Rattle.machine.specs.Run.{Course, course}
use Rattle.machine.specs.Statements.{loaded_program}
use Rattle.report.specs.Text.{Put}
use Rattle.report.proofs.Laws.{length_lines, end_line_short, refused_line_short}
use Rattle.transcript.specs.Transcript.{in_all, report, steps_in_all, dump_room, text_size, printed_of, printed}
use Rattle.transcript.proofs.Joined.{fronts, buffer_unseen}

report_short : (p : Program) (m : Machine) → length (report (in_all steps_in_all p dump_room steps_in_all m)) ≤ text_size
unfolding report
report_short p m =
    let r : Course = course p steps_in_all steps_in_all m in
    let f = fronts p 0 steps_in_all steps_in_all m in
    rw (buffer_unseen p dump_room steps_in_all m (lit< tt), length-append)
    (omega (arith, length_lines r.cells, f.fewer, f.within, end_line_short r.ending r.steps r.machine.ip r.machine.height (height_of_calls r.machine)))

printed_of_short : (image : List ℕ) (insts : List Inst) (labels : List Label) (l : Load) → length (printed_of image insts labels l) ≤ text_size
unfolding printed_of
printed_of_short image insts labels (rejects n) = omega (arith, refused_line_short n)
printed_of_short image insts labels (accepts l) = report_short (loaded_program image insts labels l) (fresh l)

printed_short : (image : List ℕ) → length (printed image) ≤ text_size
unfolding printed
printed_short image = printed_of_short image _ _ _

-- what was put into a text lies in it
pub put_fits : (image : List ℕ) {t t' : List ℕ} {n : ℕ} → length t' ≡ text_size → Put t 0 (printed image) t' n → n ≤ length t'
put_fits image long p = omega (arith, p.next_is, printed_short image)
