-- What a lookup is made in.
use Rattle.std.specs.Prelude.{ℕ, List}
use Rattle.inst.specs.declared.Inst.{Inst}
use Rattle.machine.specs.declared.Label.{Label}
use Rattle.machine.specs.Lookup.{Program}

-- what a run is lent, the labels as records
abbrev pub lent_program : List ℕ → List Inst → List Label → ℕ → Program
lent_program image insts labels count = record { image = image; insts = insts; labels = labels; count = count }
