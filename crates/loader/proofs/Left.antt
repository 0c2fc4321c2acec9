-- The bytes that a call leaves are the records that document 01's load leaves. Assumes nothing.
use Prim.Native.Nat.{ℕ}
use mathlib.Core.Path.{◌≡◌, refl}
use mathlib.Core.List.{List}
use Rattle.machine.specs.Load.{Load, rejects, accepts, insts_after, labels_after}
use Rattle.tables.specs.Tables.{insts_of, labels_of}
use Rattle.tables.proofs.Laws.{insts_sets, labels_sets}
use Rattle.loader.specs.Loading.{insts_left, labels_left}

pub insts_left_lem : (x : Load) (xs : List ℕ) → insts_of (insts_left x xs) ≡ insts_after x (insts_of xs)
unfolding insts_left insts_after
insts_left_lem (rejects n) xs = refl
insts_left_lem (accepts l) xs = insts_sets l.insts xs

pub labels_left_lem : (x : Load) (xs : List ℕ) → labels_of (labels_left x xs) ≡ labels_after x (labels_of xs)
unfolding labels_left labels_after
labels_left_lem (rejects n) xs = refl
labels_left_lem (accepts l) xs = labels_sets l.labels xs
