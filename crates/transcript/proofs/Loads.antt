-- What is printed of a load's answer. Assumes nothing.
use Prim.Native.Nat.{ℕ}
use mathlib.Core.Path.{◌≡◌, ap, ◌∙◌, sym}
use mathlib.Core.List.{List}
use native.Mathlib.Omega.{arith}
use lib.Seq.{sets}
use Rattle.machine.specs.declared.Machine.{Machine}
use Rattle.machine.specs.Load.{Load, rejects, accepts, insts_after, labels_after, fresh, count_of}
use Rattle.machine.specs.Statements.{loaded_program}
use Rattle.tables.specs.Tables.{insts_of, labels_of, program}
use Rattle.tables.proofs.Laws.{insts_sets, labels_sets}
use Rattle.std.specs.Prelude.{Result, Ok, Err}
use Rattle.loader.specs.declared.Accepted.{Accepted}
use Rattle.loader.specs.declared.refusal.Refusal.{Refusal}
use Rattle.loader.specs.Refusals.{number_of}
use Rattle.loader.specs.Loading.{refuses, starts, reply_of, fresh_at, means, insts_left, labels_left, load_of, FromBinary}
use Rattle.report.specs.Text.{refused_line, Put}
use Rattle.transcript.specs.Transcript.{in_all, report, steps_in_all, dump_room, printed_of, printed_with}

module _ (image insts labels : List ℕ) where
  refused_prints : (insts' labels' : List ℕ) (x : Refusal) → FromBinary image insts labels (Err x) insts' labels' → printed_with image insts labels ≡ refused_line (number_of x)
  unfolding means reply_of printed_of
  refused_prints insts' labels' x f = by_load (load_of image insts labels) f.answers
    where
      by_load : (l : Load) → refuses (number_of x) ≡ reply_of l → printed_of image (insts_of insts) (labels_of labels) l ≡ refused_line (number_of x)
      by_load (rejects k) e = let h : number_of x ≡ k = cc in ap refused_line (sym h)
      by_load (accepts l) e = let z : ◌≡◌ {A = ℕ} 0 1 = cc in absurd (omega arith)

  -- the tables as they were left are those of the definition
  accepted_prints : (insts' labels' : List ℕ) (ip count : ℕ) → FromBinary image insts labels (Ok (record { ip = ip; count = count })) insts' labels'
      → printed_with image insts labels ≡ report (in_all steps_in_all (program image insts' labels' count) dump_room steps_in_all (fresh_at ip))
  unfolding means reply_of printed_of insts_left labels_left loaded_program insts_after labels_after
  accepted_prints insts' labels' ip count f = by_load (load_of image insts labels) f.answers f.insts_are f.labels_are
    where
      by_load : (l : Load) → starts (fresh_at ip) count ≡ reply_of l → insts' ≡ insts_left l insts → labels' ≡ labels_left l labels
          → printed_of image (insts_of insts) (labels_of labels) l ≡ report (in_all steps_in_all (program image insts' labels' count) dump_room steps_in_all (fresh_at ip))
      by_load (rejects k) e i j = let z : ◌≡◌ {A = ℕ} 0 1 = cc in absurd (omega arith)
      by_load (accepts l) e i j =
          let m : fresh_at ip ≡ fresh l = cc in
          let c : count ≡ count_of l = cc in
          let x : insts_of insts' ≡ sets (insts_of insts) 0 l.insts = ap insts_of i ∙ insts_sets l.insts insts in
          let y : labels_of labels' ≡ sets (labels_of labels) 0 l.labels = ap labels_of j ∙ labels_sets l.labels labels in
          rw (m, c, x, y)

  -- by the call's answer
  pub refused_put : {insts' labels' t t' : List ℕ} {r : Result Accepted Refusal} {x : Refusal} {n next : ℕ} → FromBinary image insts labels r insts' labels' → r ≡ Err x → n ≡ number_of x
      → Put t 0 (refused_line n) t' next → Put t 0 (printed_with image insts labels) t' next
  refused_put f e i p = rw (refused_prints _ _ _ (rw e at f)) (rw i at p)

  pub accepted_put : {insts' labels' t t' : List ℕ} {r : Result Accepted Refusal} {a : Accepted} {next : ℕ} {m : Machine} → FromBinary image insts labels r insts' labels'
      → r ≡ Ok a → m ≡ fresh_at a.ip → Put t 0 (report (in_all steps_in_all (program image insts' labels' a.count) dump_room steps_in_all m)) t' next
      → Put t 0 (printed_with image insts labels) t' next
  accepted_put f e i p = rw (accepted_prints _ _ _ _ (rw e at f)) (rw i at p)
