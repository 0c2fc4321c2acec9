-- `transcript::is_full` meets its contract. Assumes nothing.
use mathlib.Core.Path.{◌≡◌, refl, ap, sym, ◌∙◌}
use borrow.Author.Tests.{ne_eqb}
use Rattle.inst.proofs.Laws.{never}
use Rattle.machine.specs.declared.Ending as code
use Rattle.machine.specs.declared.Ending.TheVariants as variant
use Rattle.machine.specs.contracts.EndingPartialEq.TheImpl as equality
use Rattle.machine.specs.Ending.{Number, ending_of}
use Rattle.machine.proofs.Endings.{endings_differ}
use Rattle.transcript.specs.Transcript.{is_full}
use Rattle.transcript.proofs.is_full.Goals as goal

same : (e : code.Ending) → (equality.ghosts).eq e variant.BufferFull ≡ is_full (ending_of e)
unfolding is_full
same variant.Halted = refl
same variant.Limit = refl
same (variant.Trap t) =
    sym (ne_eqb _ 33 (λ n. never (ap (λ e. (equality.ghosts).eq e variant.BufferFull) (endings_differ (variant.Trap t) variant.BufferFull (ap Number n)))))
same variant.BufferFull = refl
same variant.IllState = refl

pub returns : goal.returns
returns c = c.eq.ensures ∙ same c.args.ending
