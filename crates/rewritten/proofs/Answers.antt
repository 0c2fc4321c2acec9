-- The encoder's answers for a table as a load leaves it, and of every table: the room asked for is the room needed. Assumes nothing.
use Prim.Native.Nat.{ℕ, ◌-◌, ◌^◌, ◌≤◌}
use mathlib.Core.Path.{◌≡◌, refl, ap, ◌∙◌}
use mathlib.Core.Bool.{Bool, true, false, cond}
use mathlib.Core.List.{List, ◌++◌}
use native.Mathlib.Omega.{arith}
use lib.Dec.{leb}
use lib.ListN.{length, take, drop}
use lib.Seq.{length-sets, take_at}
use borrow.Author.Tests.{le-leb, lt-leb, leb-true, leb-false}
use Rattle.inst.specs.declared.Inst.{Inst}
use Rattle.machine.specs.Load.{Loaded, accepts, insts_after, count_of}
use Rattle.machine.specs.Encode.{all_well_formed, bytes_of_all, Encoded, encoded, unencoded, size_of, in_room, encode, encoded_size, output_after}
use Rattle.machine.proofs.Lists.{filled}
use Rattle.rewritten.specs.Rewritten.{Writes, AskedIsNeeded}

module _ (image : List ℕ) (insts : List Inst) (l : Loaded) (written : List ℕ) (well : all_well_formed image l.insts ≡ true) (fits : count_of l ≤ length insts)
    (is : bytes_of_all image l.insts ≡ written) (short : length written ≤ 2 ^ 64 - 1) where
  abbrev table : List Inst
  table = insts_after (accepts l) insts

  records_are : take (count_of l) table ≡ l.insts
  unfolding insts_after
  records_are = ap (take (count_of l)) (filled l.insts insts fits) ∙ take_at l.insts (drop (count_of l) insts) (count_of l) refl

  table_holds : count_of l ≤ length table
  unfolding insts_after
  table_holds = rw length-sets fits

  size_is : size_of image table (count_of l) ≡ encoded (length written)
  unfolding size_of
  size_is = rw (records_are, le-leb _ _ table_holds, well, is)

  output_by : (out : List ℕ) (b : Bool) → leb (length written) (length out) ≡ b
      → output_after (cond b (encoded (length written)) (unencoded 10)) image table (count_of l) out ≡ cond b (written ++ drop (length written) out) out
  unfolding output_after
  output_by out true e = rw (records_are, is) (filled written out (leb-true _ _ e))
  output_by out false e = refl

  answer : (out : List ℕ) → encode image table (count_of l) out ≡ cond (leb (length written) (length out)) (encoded (length written)) (unencoded 10)
  unfolding encode in_room
  answer out = rw size_is

  asked : encoded_size image table (count_of l) ≡ encoded (length written)
  unfolding encoded_size in_room
  asked = rw (size_is, le-leb _ _ short)

  pub writes : Writes image insts l written
  writes = record { answer_is = answer; output_is = λ out. rw (answer out) (output_by out _ refl); size_is = asked }

-- ---- of every table

asked_alike : (n room longest : ℕ) → room ≤ longest → (b : Bool) → leb n longest ≡ b
    → cond (leb n room) (encoded n) (unencoded 10) ≡ in_room room (cond b (encoded n) (unencoded 10))
unfolding in_room
asked_alike n room longest h true e = refl
asked_alike n room longest h false e = let l = leb-false n longest e in rw (lt-leb n room (omega arith))

room_alike : (x : Encoded) (room longest : ℕ) → room ≤ longest → in_room room x ≡ in_room room (in_room longest x)
unfolding in_room
room_alike (unencoded n) room longest h = refl
room_alike (encoded n) room longest h = asked_alike n room longest h (leb n longest) refl

pub asked_is_needed : AskedIsNeeded
unfolding encode encoded_size
asked_is_needed image insts count out h = room_alike (size_of image insts count) (length out) (2 ^ 64 - 1) h
