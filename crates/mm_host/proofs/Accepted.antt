-- A call of mm_load that answers 0 accepted the image. Assumes nothing.
use Prim.Native.Nat.{ℕ}
use mathlib.Core.Path.{◌≡◌, refl, ap}
use mathlib.Core.Bool.{Bool, true, false, cond}
use mathlib.Core.List.{List}
use native.Mathlib.Omega.{arith}
use lib.Dec.{eqb}
use lib.ListN.{length}
use Rattle.machine.specs.Load.{Loaded, Load, rejects, accepts}
use Rattle.machine.proofs.Refusals.{Numbered, load_numbered}
use Rattle.tables.specs.Tables.{insts_of, labels_of}
use Rattle.loader.specs.Loading.{load_of}
use Rattle.machine_bytes.specs.Layout.{machine_size}
use Rattle.mm_host.specs.Calls.{LoadCall, not_loaded, loaded_by, load_call, no_machine}

accepted_by : (b : Bool) (o : Load) (insts labels machine : List ℕ) (r : LoadCall) → Numbered o → cond b (loaded_by o insts labels machine) (not_loaded no_machine insts labels machine) ≡ r → r.number ≡ 0
    → (l : Loaded) × (o ≡ accepts l) × (loaded_by (accepts l) insts labels machine ≡ r)
unfolding loaded_by
accepted_by false o insts labels machine r n e z = absurd (omega (arith, ap (λ (a : LoadCall). a.number) e))
accepted_by true (rejects k) insts labels machine r n e z = absurd (omega (arith, ap (λ (a : LoadCall). a.number) e))
accepted_by true (accepts l) insts labels machine r n e z = (l, refl, e)

pub load_accepted : (image insts labels machine : List ℕ) (r : LoadCall) → load_call image insts labels machine ≡ r → r.number ≡ 0
    → (l : Loaded) × (load_of image insts labels ≡ accepts l) × (loaded_by (accepts l) insts labels machine ≡ r)
unfolding load_call
load_accepted image insts labels machine r e z =
    accepted_by (eqb (length machine) machine_size) (load_of image insts labels) insts labels machine r (load_numbered image (insts_of insts) (labels_of labels)) e z
