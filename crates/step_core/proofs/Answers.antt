-- The ways in which an instruction ends, each of which meets the contract Acts. Assumes nothing.
use Prim.Native.Nat.{ℕ}
use mathlib.Core.Path.{◌≡◌, refl, ◌∙◌, sym}
use mathlib.Core.List.{List}
use mathlib.Core.Bool.{false}
use Rattle.machine.specs.declared.Machine.{Machine}
use Rattle.machine.specs.declared.Trap.{Trap as Cause}
use Rattle.machine.specs.Traps.{trap_number}
use Rattle.machine.specs.Step.{Stepped, succeeds, trap, ill}
use Rattle.step_core.specs.declared.Registers.{Registers}
use Rattle.step_core.specs.declared.Executed.{Executed}
use Rattle.step_core.specs.declared.Executed.TheVariants.{Next, Trap, Ill}
use Rattle.step_core.specs.Parts.{of_parts, Inside, Acts}

module _ {i : Machine → Stepped} {c : Registers} {s ca me : List ℕ} {r : Executed} where
  -- success
  pub success : {n : Registers} {s' ca' me' : List ℕ} → r ≡ Next n →
      ((f : ℕ) → succeeds (of_parts n f s' ca' me' false) ≡ i (of_parts c f s ca me false)) → Inside n → Acts i c s ca me r s' ca' me'
  success e d h = rw e (record { does = d; small = h; kept = tt })

  -- a trap, with no array changed
  pub trapped : {n : Registers} {t : Cause} → r ≡ Trap n t →
      ((f : ℕ) → trap (trap_number t) (of_parts n f s ca me false) ≡ i (of_parts c f s ca me false)) → Acts i c s ca me r s ca me
  trapped e d = rw e (record { does = d; small = tt; kept = (refl, refl, refl) })

  -- 34
  pub refused : r ≡ Ill → ((f : ℕ) → ill ≡ i (of_parts c f s ca me false)) → Acts i c s ca me r s ca me
  refused e d = rw e (record { does = d; small = tt; kept = (refl, refl, refl) })

  -- what another instruction answers, which this one comes to
  pub same : {j : Machine → Stepped} {s' ca' me' : List ℕ} → Acts j c s ca me r s' ca' me' →
      ((f : ℕ) → i (of_parts c f s ca me false) ≡ j (of_parts c f s ca me false)) → Acts i c s ca me r s' ca' me'
  same a e = record { does = λ f. a.does f ∙ sym (e f); small = a.small; kept = a.kept }
