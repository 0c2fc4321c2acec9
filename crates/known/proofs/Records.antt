-- The instruction at the pointer of a program over a table. Assumes nothing.
use Prim.Native.Nat.{ℕ, ◌<◌, ◌≤◌}
use mathlib.Core.Path.{◌≡◌}
use mathlib.Core.List.{List}
use native.Mathlib.Omega.{arith}
use lib.ListN.{length}
use Rattle.machine.specs.declared.Machine.{Machine}
use Rattle.machine.specs.Load.{halt}
use Rattle.machine.specs.Lookup.{Program}
use Rattle.machine.specs.Step.{inst_at}
use Rattle.tables.specs.Tables.{inst, inst_of}
use Rattle.tables.proofs.Laws.{record_at, length_records}
use Rattle.known.specs.Known.{Over}

module _ (p : Program) (xs : List ℕ) (o : Over p xs) (m : Machine) where
  pub inst_is : m.ip < p.count → inst_at p m ≡ inst_of xs m.ip
  inst_is h = rw o.table (record_at inst xs m.ip halt (omega (arith, h, o.inside)))

  pub within : p.count ≤ length p.insts
  within = rw o.table (omega (arith, o.inside, length_records inst xs))
