-- `step::step` meets its contract. Assumes nothing.
use Prim.Native.Nat.{ℕ, ◌*◌, ◌<◌}
use native.Mathlib.Omega.{arith}
use mathlib.Core.Path.{◌≡◌, refl, sym, ◌∙◌}
use mathlib.Core.List.{[]}
use Rattle.inst.proofs.Laws.{never}
use Rattle.machine.specs.Lookup.{no_label, leads_to, lookup}
use Rattle.step_core.specs.Parts.{found_of}
use Rattle.known.specs.Known.{KnownAt}
use Rattle.tables.specs.Tables.{number_at, insts_of, inst_of}
use Rattle.lookup.specs.Walks.{lent_program}
use Rattle.known.proofs.Keeping.{formed_byte, plain_formed, plain_no_lookup, learns, keeps_jump}
use Rattle.step.proofs.Whole.{at_target, name_lies, name_is_some, is_ill, over, step_past, step_unformed, made_found, made_acts}
use Rattle.step.proofs.step.Goals as goal
use Rattle.step.proofs.step.Goals.{then-code-ip-via-then-code-ip, then-code-ip-via-else-code-ip+then-not-is_well_formed}

pub returns-then-code-ip : goal.returns-then-code-ip
returns-then-code-ip c =
    is_ill (λ labels. elim c.then-code-ip.branch [
      | then-code-ip-via-then-code-ip w ↦ step_past (over c.args.code.inside) _ _ _ _ c.requires w.if-code-ip.true
      | then-code-ip-via-else-code-ip+then-not-is_well_formed w ↦
          step_unformed (over c.args.code.inside) _ _ _ _ c.requires w.if-code-ip.false (sym w.if-not-is_well_formed.ensures)
    ])

pub unwrap-requires : goal.unwrap-requires
unwrap-requires c =
    let i = inst_of c.args.code.insts.now c.args.regs.ip in
    name_is_some c.args.code.image.now i (sym c.if-not-is_well_formed.ensures) (rw (← c.op-op.ensures) (sym c.if-looks_up.ensures)) c.part.result _ (rw c.inst-inst.ensures at c.part.ensures)

pub returns-in_default : goal.returns-in_default
returns-in_default c =
    let i = inst_of c.args.code.insts.now c.args.regs.ip in
    let lies = name_lies c.args.code.image.now i (sym c.if-not-is_well_formed.ensures) (rw (← c.op-op.ensures) (sym c.if-looks_up.ensures)) in
    let named = rw (c.unwrap.ensures, c.inst-inst.ensures) at c.part.ensures in
    record { small = tt; listed = λ n up l. l; tried = λ labels told. (c.in_default.is, (lies, named.1), refl) }

pub returns-in-Some : goal.returns-in-Some
returns-in-Some c =
    let code = c.args.code in
    let xs = code.insts.now in
    let ip = c.args.regs.ip in
    let op = number_at xs (ip * 4) in
    let below = c.if-code-ip.false in
    let formed = sym c.if-not-is_well_formed.ensures in
    let keeps = keeps_jump c.keep_jump.ensures.sized _ (rw c.op-op.ensures at c.keep_jump.ensures.kept (omega (arith, formed_byte _ xs ip formed))) in
    record {
      small = (c.execute_jump-answer.ensures 0 0 0 [] []).small;
      listed = λ n up l. keeps (λ (key t i : ℕ). i < n) l (at_target c.in-Some.found (λ (t : ℕ). ip < n) (λ t h. omega (arith, below, up)));
      tried = λ labels told.
          let p = lent_program code.image.now (insts_of xs) labels code.count in
          let finds = rw c.in-Some.is at told in
          let i = inst_of xs ip in
          let known : (t : ℕ) → found_of c.in-Some.found ≡ leads_to t → KnownAt p xs op t ip = λ t h. record { below = below; formed = formed; typ_is = refl; target_is = λ l. sym finds ∙ h } in (
            made_found (over code.inside) _ _ _ _ c.requires below formed finds (rw c.op-op.ensures at (c.execute_jump-answer.ensures i.val i.start i.len c.args.arrays.now.stack c.args.arrays.now.memory)),
            λ k. keeps (KnownAt p xs) k (at_target c.in-Some.found (λ (t : ℕ). KnownAt p xs op t ip) known),
          );
    }

pub returns-else-looks_up : goal.returns-else-looks_up
returns-else-looks_up c =
    let code = c.args.code in
    let image = code.image.now in
    let xs = code.insts.now in
    let ip = c.args.regs.ip in
    record {
      small = (c.execute_instruction.ensures no_label 0 0).small;
      listed = λ n up l. learns c.learn.ensures (λ (key t i : ℕ). i < n) l (λ i t h. omega (arith, h.below, up));
      tried = λ labels told.
          let p = lent_program image (insts_of xs) labels code.count in
          let i = inst_of xs ip in (
            made_acts (over code.inside) _ _ _ _ c.requires c.if-code-ip.false (sym c.if-not-is_well_formed.ensures) (rw (c.op-op.ensures, c.operand.ensures) at (c.execute_instruction.ensures (lookup p i) i.start i.len)),
            λ k. learns c.learn.ensures (KnownAt p xs) k (λ i t h. record { below = h.below; formed = plain_formed image xs i h.plain; typ_is = refl; target_is = λ l. never (sym (plain_no_lookup image xs i h.plain) ∙ l) }),
          );
    }
