-- A call of mm_load_labels that answers 0 accepted the image. Assumes nothing.
use Prim.Native.Nat.{ℕ}
use mathlib.Core.Path.{◌≡◌, refl, ap}
use mathlib.Core.List.{List}
use native.Mathlib.Omega.{arith}
use Rattle.machine.specs.declared.Label.{Label}
use Rattle.machine.specs.Load.{Loaded, Load, rejects, accepts}
use Rattle.machine.proofs.Refusals.{Numbered, load_numbered}
use Rattle.tables.specs.Tables.{insts_of}
use Rattle.label_loader.specs.Loading.{LoadCall, load_of, loaded_by, load_call}

accepted_by : (o : Load) (insts : List ℕ) (labels : List Label) (r : LoadCall) → Numbered o → loaded_by o insts labels ≡ r → r.number ≡ 0
    → (l : Loaded) × (o ≡ accepts l) × (loaded_by (accepts l) insts labels ≡ r)
unfolding loaded_by
accepted_by (rejects k) insts labels r n e z = absurd (omega (arith, ap (λ (a : LoadCall). a.number) e))
accepted_by (accepts l) insts labels r n e z = (l, refl, e)

pub load_accepted : (image insts : List ℕ) (labels : List Label) (r : LoadCall) → load_call image insts labels ≡ r → r.number ≡ 0
    → (l : Loaded) × (load_of image insts labels ≡ accepts l) × (loaded_by (accepts l) insts labels ≡ r)
unfolding load_call
load_accepted image insts labels r e z = accepted_by (load_of image insts labels) insts labels r (load_numbered image (insts_of insts) labels) e z
