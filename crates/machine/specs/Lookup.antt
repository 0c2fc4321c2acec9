-- What a run is lent beside the machine, and the lookup of a name along the label chain.
use Rattle.std.specs.Prelude.{ℕ, zero, suc, cond, ◌&&◌, List, [], ◌∷◌, eqb, ltb, length, get_or}
use Rattle.inst.specs.declared.Inst.{Inst}
use Rattle.inst.specs.Records.{part, name_in, same}
use Rattle.machine.specs.declared.Label.{Label}
use Rattle.machine.specs.Load.{name_of, head}

-- the image, the two tables, and the count of instructions
pub record Program : Type 0 where
  pub image : List ℕ
  pub insts : List Inst
  pub labels : List Label
  pub count : ℕ

-- what a lookup finds: a chain that 34 names, no such label, or one with its target in the program
pub data Found : Type 0 where
  ill_chain : Found
  no_label : Found
  leads_to : ℕ → Found

abbrev pub label_at : Program → ℕ → Label
label_at p i = get_or p.labels i (head 0)

-- 26 and 27 are also for a target that is not in the program
abbrev pub in_program : Program → ℕ → Found
in_program p t = cond (ltb t p.count) (leads_to t) no_label

-- From the record with this index on. 34: an index past the table, or, from the second after the head on, not below the one before
-- (`bound` is first the table's length, then the index before); a name part outside the image or with a byte of 128 or more.
-- Index 0 ends the chain. As each index is below the one before, `fuel`, first the table's length, is never used up.
unfoldable pub walk : ℕ → Program → List ℕ → ℕ → ℕ → Found
walk zero p name bound i = ill_chain
walk (suc fuel) p name bound i =
    let l = label_at p i in
    cond (eqb i 0) no_label
    (cond (ltb i bound && name_in p.image l.start l.len)
    (cond (same name (name_of p.image l)) (in_program p l.target) (walk fuel p name i l.next))
    ill_chain)

-- 34: the head's index 0 is past an empty table; the head's unused fields are 0
unfoldable pub lookup_from : Program → List ℕ → List Label → Found
lookup_from p name [] = ill_chain
lookup_from p name (h ∷ ls) =
    cond (eqb h.start 0 && eqb h.len 0 && eqb h.target 0)
    (walk (length p.labels) p name (length p.labels) h.next)
    ill_chain

-- the lookup that a jump or CALL makes for its name
unfoldable pub lookup : Program → Inst → Found
lookup p i = lookup_from p (part p.image i.start i.len) p.labels
