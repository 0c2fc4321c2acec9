-- `mm_host::mm_load` meets its contract. Assumes nothing.
use mathlib.Core.Path.{ap, ◌∙◌}
use borrow.Author.Tests.{ne_eqb}
use Rattle.std.specs.Prelude.{Ok}
use Rattle.machine_bytes.specs.Layout.{machine_bytes}
use Rattle.mm_host.specs.Calls.{load_call}
use Rattle.mm_host.proofs.Answers.{load_answered, left_refused}
use Rattle.mm_host.proofs.mm_load.Goals.{in-Ok, in_default-answer}
use Rattle.mm_host.proofs.mm_load.Goals as goal

pub returns-in_default : goal.returns-in_default
unfolding load_call
returns-in_default c = let short = rw c.in_default.is at c.as_mut_array.ensures.cases in rw (ne_eqb _ _ short)

pub returns : goal.returns
returns c =
    let whole = rw c.in-Some.is at c.as_mut_array.ensures.cases in
    rw c.from.ensures (elim c.match-answer.branch [
      | in-Ok w ↦ rw (w.machine-is, w.answer-is) (load_answered _ (Ok w.in-Ok.accepted) whole.long (rw w.in-Ok.is at c.from_binary-answer.ensures) (w.write_machine.ensures ∙ ap machine_bytes w.fresh.ensures))
      | in_default-answer w ↦ rw (w.machine-is, w.answer-is) (load_answered _ _ whole.long c.from_binary-answer.ensures (rw whole.same (left_refused _ w.in_default-answer.not-Ok)))
    ])
