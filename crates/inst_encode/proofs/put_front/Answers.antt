-- `inst_encode::put_front` meets its contract. Assumes nothing.
use Prim.Native.Nat.{◌<◌, ◌^◌, ◌%◌, ◌+◌, ◌≤◌}
use mathlib.Core.Path.{◌≡◌, ap, sym, ◌∙◌}
use native.Mathlib.Omega.{arith}
use lib.ListN.{length, set, length-set}
use borrow.Author.Rules.{rules}
use Rattle.inst.specs.Forms.{none, eight, one, name, form_at}
use Rattle.inst.proofs.Parts.{rest_long, lent_part}
use Rattle.inst.proofs.Facts.{typ_byte, stream_byte, name_inside}
use Rattle.inst_encode.specs.Encode.{bytes_of, operand_bytes, size_by}
use Rattle.inst_encode.proofs.Laws.{is_form, bytes_are, eight_is, stored_first}
use Rattle.inst_encode.proofs.Facts.{size_is, size_below, is_found, is_there, part_is}
use Rattle.inst_encode.proofs.put_front.Goals.{in-Bare, in-Eight, in-One, in-Name}
use Rattle.inst_encode.proofs.put_front.Goals as goal

pub unwrap-form-requires : goal.unwrap-form-requires
unwrap-form-requires c = is_found c.args.image.now c.args.inst _ c.of.ensures c.requires.inst_value

pub overflow_cast-out : goal.overflow_cast-out
overflow_cast-out c =
    let h = typ_byte c.args.image.now c.args.inst c.requires.inst_value in
    record { fits = omega arith }

pub put_word-requires : goal.put_word-requires
unfolding size_by form_at
put_word-requires c =
    let n = rw (is_form _ _ _ c.of.ensures c.unwrap-form.ensures ∙ ap form_at c.in-Eight.is) at (size_is c.args.image.now c.args.inst c.requires.inst_value) in
    omega (arith, length-set c.args.out.now 0 c.args.inst.typ)

pub overflow_cast-out-in-One : goal.overflow_cast-out-in-One
unfolding form_at
overflow_cast-out-in-One c =
    let h = stream_byte c.args.image.now c.args.inst c.requires.inst_value (is_form _ _ _ c.of.ensures c.unwrap-form.ensures ∙ ap form_at c.in-One.is) in
    record { fits = omega arith }

pub bounds-out-1 : goal.bounds-out-1
unfolding size_by form_at
bounds-out-1 c =
    let n = rw (is_form _ _ _ c.of.ensures c.unwrap-form.ensures ∙ ap form_at c.in-One.is) at (size_is c.args.image.now c.args.inst c.requires.inst_value) in
    omega (arith, length-set c.args.out.now 0 c.args.inst.typ)

pub unwrap-name-requires : goal.unwrap-name-requires
unfolding form_at
unwrap-name-requires c =
    is_there _ _ _ _ c.part.ensures (name_inside c.args.image.now c.args.inst c.requires.inst_value (is_form _ _ _ c.of.ensures c.unwrap-form.ensures ∙ ap form_at c.in-Name.is))

pub put_named-requires : goal.put_named-requires
unfolding size_by form_at
put_named-requires c =
    let n = rw (is_form _ _ _ c.of.ensures c.unwrap-form.ensures ∙ ap form_at c.in-Name.is) at (size_is c.args.image.now c.args.inst c.requires.inst_value) in
    let k = (part_is c.args.image.now _ _ _ _ c.part.ensures c.unwrap-name.ensures).1 in
    let out = set c.args.out.now 0 c.args.inst.typ in
    omega (arith, rest_long out 1, length-set c.args.out.now 0 c.args.inst.typ)

pub size-requires : goal.size-requires
size-requires c =
    let h = rw (is_form _ _ _ c.of.ensures c.unwrap-form.ensures) at (size_below c.args.image.now c.args.inst c.requires.inst_value) in
    let g = c.well_formed.0 in
    omega arith

pub returns-clause-value : goal.returns-clause-value
returns-clause-value c =
    let n = rw (is_form _ _ _ c.of.ensures c.unwrap-form.ensures) at (size_is c.args.image.now c.args.inst c.requires.inst_value) in
    c.size.ensures ∙ sym n

pub returns-clause-out_after : goal.returns-clause-out_after
unfolding operand_bytes bytes_of form_at
returns-clause-out_after c =
    let image = c.args.image.now in
    let i = c.args.inst in
    let e = is_form _ _ _ c.of.ensures c.unwrap-form.ensures in
    elim c.match-form.branch [
      | in-Bare w ↦ stored_first _ _ _ _ 0 _ (bytes_are image i none (e ∙ ap form_at w.in-Bare.is)) w.out-is
      | in-Eight w ↦
          let small : i.val < 2 ^ 64 = omega arith in
          stored_first _ _ _ _ 0 _ (bytes_are image i eight (e ∙ ap form_at w.in-Eight.is)) (w.out-is ∙ rw (eight_is i.val small) at w.put_word.ensures)
      | in-One w ↦
          let f = e ∙ ap form_at w.in-One.is in
          let h = stream_byte image i c.requires.inst_value f in
          let m : i.val % 256 ≡ i.val = omega arith in
          stored_first _ _ _ _ 0 _ (bytes_are image i one f) (w.out-is ∙ rw m)
      | in-Name w ↦
          let k = part_is image _ _ _ _ w.part.ensures w.unwrap-name.ensures in
          let a = bytes_are image i name (e ∙ ap form_at w.in-Name.is) in
          let out = set c.args.out.now 0 i.typ in
          let h : 1 + length (operand_bytes image i name) ≤ length out = omega (arith, ap length a, length-set c.args.out.now 0 i.typ) in
          stored_first _ _ _ _ 0 _ a (w.out-is ∙ lent_part out _ (operand_bytes image i name) 1 _ h (search rules) (rw (k.1, k.0) at w.put_named.ensures))
    ]
