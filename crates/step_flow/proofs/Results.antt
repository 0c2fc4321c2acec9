-- What a lookup answered, by its two arms. Assumes nothing.
use Prim.Native.Nat.{ℕ}
use mathlib.Core.Bool.{Bool, true}
use Rattle.machine.specs.declared.Machine.{Machine}
use Rattle.machine.specs.Step.{jump, jump_if}
use Rattle.step_core.specs.Parts.{LookedUp, found_of}
use Rattle.std.proofs.Common.{◌≡◌, refl, ◌∙◌, ap, Ok, Err}
use Rattle.step_core.specs.declared.LookupError.{LookupError}
use Rattle.step_core.specs.declared.LookupError.TheVariants.{NoLabel, IllChain}

pub answered : {found : LookedUp} {e e' : LookupError} → found ≡ Err e → e ≡ e' → found ≡ Err e'
answered is is' = is ∙ ap Err is'

-- a conditional jump whose flag is set wherever its label was found is the jump
pub taken : (b : Bool) (found : LookedUp) (m : Machine) → ((t : ℕ) → found ≡ Ok t → b ≡ true) → jump_if b (found_of found) m ≡ jump (found_of found) m
unfolding jump_if jump
taken b (Ok t) m set = rw (set t refl)
taken b (Err NoLabel) m set = refl
taken b (Err IllChain) m set = refl
