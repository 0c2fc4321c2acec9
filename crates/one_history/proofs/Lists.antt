-- Calls by their contracts are runs of the definitions. Assumes nothing.
use Prim.Native.Nat.{ℕ}
use mathlib.Core.Path.{◌≡◌, refl, ap, ◌∙◌, subst}
use mathlib.Core.List.{List, [], ◌∷◌, map}
use native.Mathlib.Omega.{arith}
use Rattle.inst.specs.declared.Inst.{Inst}
use Rattle.inst.specs.Records.{Bytes}
use Rattle.machine.specs.declared.Machine.{Machine}
use Rattle.machine.specs.declared.Label.{Label}
use Rattle.machine.specs.Load.{Loaded, Load, rejects, accepts, load, insts_after, labels_after, fresh, count_of}
use Rattle.machine.specs.Lookup.{Program}
use Rattle.machine.specs.Statements.{OneHistory, RunsFrom, loaded_program}
use Rattle.machine.proofs.Runs.{runs_are_one_history}
use Rattle.tables.specs.Tables.{insts_of, labels_of}
use Rattle.loader.specs.Loading.{starts, reply_of, fresh_at, means, load_of}
use Rattle.loader.proofs.Left.{insts_left_lem, labels_left_lem}
use Rattle.run.specs.declared.Ran.{Ran}
use Rattle.run.specs.Runs.{answer, run_bytes}
use Rattle.run.proofs.Cells.{in_cells}
use Rattle.one_history.specs.Calls.{Call, Called, request, result, OneHistoryOf, CallsAreOneHistory, RecordCallsAreOneHistory}
use Rattle.one_history.proofs.Records.{load_labels}

-- the contract of a run over the program p
abbrev Runs : Program → Machine → ℕ → List ℕ → Ran → List ℕ → Type 0
Runs p m limit dumps r dumps' = answer r dumps' ≡ run_bytes p limit dumps m

from_calls : (p : Program) (m : Machine) (cs : List Call) → Called (Runs p) m cs → RunsFrom p m (map request cs) (map result cs)
unfolding Called RunsFrom
from_calls p m [] h = tt
from_calls p m (c ∷ cs) h = (in_cells p c.limit c.lent m (answer c.ran c.left) h.0, from_calls p c.ran.machine cs h.1)

module _ (image : List ℕ) (insts : List Inst) (labels : List Label) (ip count : ℕ) (insts' : List Inst) (labels' : List Label) (bytes : Bytes image) where
  abbrev p : Program
  p = record { image = image; insts = insts'; labels = labels'; count = count }

  -- over the records that the load left
  from_loaded : (l : Loaded) → load image insts labels ≡ accepts l → fresh_at ip ≡ fresh l → count ≡ count_of l → insts' ≡ insts_after (accepts l) insts → labels' ≡ labels_after (accepts l) labels
      → (cs : List Call) → Called (Runs p) (fresh_at ip) cs → OneHistory image l (map request cs) (map result cs)
  unfolding loaded_program
  from_loaded l e m n i j cs h =
      let q : p ≡ loaded_program image insts labels l = rw (i, j, n) in
      runs_are_one_history image insts labels l bytes e _ _
      (subst (λ (r : Program). RunsFrom r (fresh l) (map request cs) (map result cs)) q (subst (λ (x : Machine). RunsFrom p x (map request cs) (map result cs)) m (from_calls p (fresh_at ip) cs h)))

  accepted : (x : Load) → load image insts labels ≡ x → starts (fresh_at ip) count ≡ reply_of x → insts' ≡ insts_after x insts → labels' ≡ labels_after x labels
      → (cs : List Call) → Called (Runs p) (fresh_at ip) cs → OneHistoryOf image x cs
  unfolding reply_of
  accepted (rejects n) e a i j cs h = absurd (let z : ◌≡◌ {A = ℕ} 0 1 = cc in omega arith)
  accepted (accepts l) e a i j cs h = (l, refl, from_loaded l e (cc) (cc) i j cs h)

pub calls_are_one_history : CallsAreOneHistory
unfolding means
calls_are_one_history image insts labels ip count insts' labels' bytes f cs h =
    accepted image (insts_of insts) (labels_of labels) ip count (insts_of insts') (labels_of labels') bytes (load_of image insts labels) refl f.answers
    (ap insts_of f.insts_are ∙ insts_left_lem _ insts) (ap labels_of f.labels_are ∙ labels_left_lem _ labels) cs h

pub record_calls_are_one_history : RecordCallsAreOneHistory
record_calls_are_one_history image insts labels r bytes e z cs h =
    let a = load_labels image insts labels r e z in
    (a.loaded, a.accepted, from_loaded image (insts_of insts) labels r.ip r.count (insts_of r.insts) r.labels bytes a.loaded a.accepted a.machine_is a.count_is a.insts_are a.labels_are cs h)
