-- A host's calls by their equations are runs of the definitions. Assumes nothing.
use Prim.Native.Nat.{ℕ}
use mathlib.Core.Path.{◌≡◌, refl, ap, sym, ◌∙◌, subst}
use mathlib.Core.List.{List, [], ◌∷◌, map}
use lib.ListN.{length-replicate}
use Rattle.inst.specs.declared.Inst.{Inst}
use Rattle.inst.specs.Records.{Bytes}
use Rattle.machine.specs.declared.Machine.{Machine}
use Rattle.machine.specs.declared.Label.{Label}
use Rattle.machine.specs.Limits.{stack_limit, call_limit, memory_size}
use Rattle.machine.specs.Load.{Loaded, accepts, load, insts_after, labels_after, fresh, count_of}
use Rattle.machine.specs.Lookup.{Program}
use Rattle.machine.specs.Run.{Result}
use Rattle.machine.specs.Statements.{RunsFrom, loaded_program}
use Rattle.machine.proofs.Runs.{runs_are_one_history}
use Rattle.tables.specs.Tables.{insts_of, labels_of, numbers_in, program}
use Rattle.loader.specs.Loading.{insts_left, labels_left}
use Rattle.loader.proofs.Left.{insts_left_lem, labels_left_lem}
use Rattle.run.specs.Runs.{run_bytes}
use Rattle.run.proofs.Cells.{cells, in_cells}
use Rattle.machine.specs.Ending.{ending_number}
use Rattle.machine_bytes.specs.Layout.{machine_of, machine_bytes, Sized}
use Rattle.machine_bytes.proofs.Back.{is_a_machine, machine_back}
use Rattle.mm_host.specs.Calls.{LoadCall, RunCall, loaded_by, load_call, no_machine, ran_by, run_call}
use Rattle.mm_host.proofs.Accepted.{load_accepted}
use Rattle.label_run.specs.Runs as runs
use Rattle.one_history.specs.Host.{HostRun, HostRuns, Ran, RanInPlace, host_request, host_result, NoneIs, HostHistory, HostCallsAreOneHistory, InPlaceHostCallsAreOneHistory}
use Rattle.one_history.proofs.Keeps.{Told, run_sized, run_told, crosses, never_50}
use Rattle.one_history.proofs.Records.{load_labels}

-- a run's answer that crossed is the run's
crossed : {M : Type 0} (read : M → Machine) (c : HostRun M) (r : Result) → c.ending ≡ ending_number r.ending → c.steps ≡ r.steps → c.dumped ≡ r.dumped
    → read c.machine ≡ r.machine → c.left ≡ r.buffer → Told r.ending → host_result read c ≡ cells r
crossed read c r e s d m b t = rw (e, s, d, m, b, crosses r.ending t)

module _ (p : Program) where
  -- what the definition's run over the buffer's bytes tells
  ending_told : (limit : ℕ) (dumps : List ℕ) (x : Machine) → Told (run_bytes p limit dumps x).ending
  ending_told limit dumps x =
      subst Told (ap (λ (r : Result). r.ending) (sym (in_cells p limit dumps x (run_bytes p limit dumps x) refl))) (run_told p x (record { limit = limit; buffer = numbers_in dumps }))

  machine_sized : (limit : ℕ) (dumps : List ℕ) (x : Machine) → Sized x → Sized (run_bytes p limit dumps x).machine
  machine_sized limit dumps x s =
      subst Sized (ap (λ (r : Result). r.machine) (sym (in_cells p limit dumps x (run_bytes p limit dumps x) refl))) (run_sized p x (record { limit = limit; buffer = numbers_in dumps }) s)

  -- runs whose answers crossed, from the machine x
  abbrev pub Crossed : {M : Type 0} → (M → Machine) → Machine → List (HostRun M) → Type 0
  Crossed read x cs = RunsFrom p x (map host_request cs) (map (host_result read) cs) × NoneIs no_machine cs

  one_more : {M : Type 0} (read : M → Machine) (x : Machine) (c : HostRun M) (cs : List (HostRun M)) → let r = run_bytes p c.limit c.lent x in
      c.ending ≡ ending_number r.ending → c.steps ≡ r.steps → c.dumped ≡ r.dumped → read c.machine ≡ r.machine → c.left ≡ r.buffer
      → Crossed read r.machine cs → Crossed read x (c ∷ cs)
  unfolding RunsFrom NoneIs
  one_more read x c cs e s d m b rest =
      let r = run_bytes p c.limit c.lent x in
      let t = ending_told c.limit c.lent x in (
        (
          crossed read c r e s d m b t ∙ in_cells p c.limit c.lent x r refl,
          subst (λ (y : Machine). RunsFrom p y (map host_request cs) (map (host_result read) cs)) (sym m) rest.0,
        ),
        (λ z. never_50 r.ending t (sym e ∙ z), rest.1),
      )

-- mm_run: each from the bytes of a machine
module _ (image insts labels : List ℕ) (count : ℕ) where
  abbrev p : Program
  p = program image insts labels count

  run_is : (x : Machine) (limit : ℕ) (dumps : List ℕ) → Sized x → run_call image insts labels count (machine_bytes x) limit dumps ≡ ran_by (run_bytes p limit dumps x)
  unfolding run_call
  run_is x limit dumps s = rw (is_a_machine x s, machine_back x s)

  by_bytes : (x : Machine) (bytes : List ℕ) (cs : List (HostRun (List ℕ))) → Sized x → bytes ≡ machine_bytes x → HostRuns (Ran image insts labels count) bytes cs → Crossed p machine_of x cs
  unfolding HostRuns RunsFrom NoneIs ran_by
  by_bytes x bytes [] s e h = (tt, tt)
  by_bytes x bytes (c ∷ cs) s e h =
      let r = run_bytes p c.limit c.lent x in
      let q : ran_by r ≡ record { ending = c.ending; steps = c.steps; dumped = c.dumped; machine = c.machine; dumps = c.left } =
      sym (run_is x c.limit c.lent s) ∙ ap (λ (b : List ℕ). run_call image insts labels count b c.limit c.lent) (sym e) ∙ h.0 in
      let sized = machine_sized p c.limit c.lent x s in
      let m : c.machine ≡ machine_bytes r.machine = sym (ap (λ (a : RunCall). a.machine) q) in
      one_more p machine_of x c cs
      (sym (ap (λ (a : RunCall). a.ending) q))
      (sym (ap (λ (a : RunCall). a.steps) q))
      (sym (ap (λ (a : RunCall). a.dumped) q))
      (ap machine_of m ∙ machine_back r.machine sized)
      (sym (ap (λ (a : RunCall). a.dumps) q))
      (by_bytes r.machine c.machine cs sized m h.1)

-- mm_run_in_place: each from the machine itself
module _ (image insts : List ℕ) (labels : List Label) (count : ℕ) where
  abbrev q : Program
  q = record { image = image; insts = insts_of insts; labels = labels; count = count }

  in_place : (x : Machine) (cs : List (HostRun Machine)) → HostRuns (RanInPlace image insts labels count) x cs → Crossed q (λ m. m) x cs
  unfolding HostRuns RunsFrom NoneIs runs.run_call runs.ran_by
  in_place x [] h = (tt, tt)
  in_place x (c ∷ cs) h =
      let m : c.machine ≡ (run_bytes q c.limit c.lent x).machine = sym (ap (λ (a : runs.RunCall). a.machine) h.0) in
      one_more q (λ m. m) x c cs
      (sym (ap (λ (a : runs.RunCall). a.ending) h.0))
      (sym (ap (λ (a : runs.RunCall). a.steps) h.0))
      (sym (ap (λ (a : runs.RunCall). a.dumped) h.0))
      m
      (sym (ap (λ (a : runs.RunCall). a.dumps) h.0))
      (in_place (run_bytes q c.limit c.lent x).machine cs (subst (λ (y : Machine). HostRuns (RanInPlace image insts labels count) y cs) m h.1))

fresh_sized : (l : Loaded) → Sized (fresh l)
unfolding fresh
fresh_sized l = record { stack_long = length-replicate {A = ℕ} stack_limit 0; calls_long = length-replicate {A = ℕ} call_limit 0; memory_long = length-replicate {A = ℕ} memory_size 0 }

-- the program of what the load left
left_program : (image : List ℕ) (insts : List Inst) (labels : List Label) (l : Loaded) (is : List Inst) (ls : List Label) (n : ℕ) → is ≡ insts_after (accepts l) insts → ls ≡ labels_after (accepts l) labels
    → n ≡ count_of l → record { image = image; insts = is; labels = ls; count = n } ≡ loaded_program image insts labels l
unfolding loaded_program
left_program image insts labels l is ls n i j k = rw (i, j, k)

-- crossed runs over what the load left, from its fresh machine
one_history : {M : Type 0} (read : M → Machine) (image : List ℕ) (insts : List Inst) (labels : List Label) (l : Loaded) (p : Program) → Bytes image → load image insts labels ≡ accepts l → p ≡ loaded_program image insts labels l
    → (cs : List (HostRun M)) → Crossed p read (fresh l) cs → HostHistory image (load image insts labels) read cs
one_history read image insts labels l p bytes e q cs h =
    record {
      one_history = (l, e, runs_are_one_history image insts labels l bytes e _ _ (subst (λ (r : Program). RunsFrom r (fresh l) (map host_request cs) (map (host_result read) cs)) q h.0));
      never_50 = h.1;
    }

pub host_calls_are_one_history : HostCallsAreOneHistory
unfolding load_call loaded_by
host_calls_are_one_history image insts labels machine r bytes e z cs h =
    let a = load_accepted image insts labels machine r e z in
    let l = a.0 in
    let f = a.2 in
    let i : r.insts ≡ insts_left (accepts l) insts = sym (ap (λ (x : LoadCall). x.insts) f) in
    let j : r.labels ≡ labels_left (accepts l) labels = sym (ap (λ (x : LoadCall). x.labels) f) in
    let n : r.count ≡ count_of l = sym (ap (λ (x : LoadCall). x.count) f) in
    let m : r.machine ≡ machine_bytes (fresh l) = sym (ap (λ (x : LoadCall). x.machine) f) in
    let q = left_program image (insts_of insts) (labels_of labels) l _ _ _ (ap insts_of i ∙ insts_left_lem (accepts l) insts) (ap labels_of j ∙ labels_left_lem (accepts l) labels) n in
    one_history machine_of image (insts_of insts) (labels_of labels) l _ bytes a.1 q cs
    (by_bytes image r.insts r.labels r.count (fresh l) r.machine cs (fresh_sized l) m h)

pub in_place_host_calls_are_one_history : InPlaceHostCallsAreOneHistory
in_place_host_calls_are_one_history image insts labels r bytes e z cs h =
    let a = load_labels image insts labels r e z in
    let l = a.loaded in
    let q = left_program image (insts_of insts) labels l _ _ _ a.insts_are a.labels_are a.count_is in
    one_history (λ x. x) image (insts_of insts) labels l _ bytes a.accepted q cs
    (in_place image r.insts r.labels r.count (fresh l) cs (subst (λ (y : Machine). HostRuns (RanInPlace image r.insts r.labels r.count) y cs) a.machine_is h))
