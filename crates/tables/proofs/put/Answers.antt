-- `tables::put` meets its contract. Assumes nothing.
use Prim.Native.Nat.{ℕ, ◌*◌}
use mathlib.Core.Path.{◌≡◌, ap, sym, ◌∙◌}
use mathlib.Core.List.{List, [], ◌∷◌}
use lib.Seq.{sets}
use Rattle.std.specs.Prelude.{slice_index}
use Rattle.tables.specs.Tables.{bytes_of}
use Rattle.tables.proofs.Bytes.{four_stored}
use Rattle.tables.proofs.put.Goals as goal

pub returns : goal.returns
returns g c =
    let law = g.met.R.Record in
    let ns = g.R.Record.numbers c.args.r in
    let four : ns ≡ slice_index ns 0 ∷ slice_index ns 1 ∷ slice_index ns 2 ∷ slice_index ns 3 ∷ [] = ap g.R.Record.numbers (sym (law.forth c.args.r)) ∙ law.back _ _ _ _ in
    four_stored _ _ _ _ _ _ _ _ _ _ c.put_number.ensures c.put_number-2.ensures c.put_number-3.ensures c.put_number-4.ensures
    ∙ ap (λ (l : List ℕ). sets c.args.table.now (c.args.i * 32) (bytes_of l)) (rw c.to_numbers.ensures (sym four))
