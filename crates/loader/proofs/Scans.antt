-- What one instruction more does to a scan, and to what the code keeps of it. Assumes nothing.
use Prim.Native.Nat.{ℕ, ◌+◌, ◌<◌}
use mathlib.Core.Path.{◌≡◌, refl}
use mathlib.Core.Bool.{Bool, true, false, cond, ◌||◌}
use mathlib.Core.List.{List, [], ◌∷◌, ◌++◌}
use native.Mathlib.Nat.{suc-add}
use native.Mathlib.Omega.{arith}
use lib.ListN.{length, length-append}
use Rattle.std.specs.Option.{option_or}
use Rattle.std.specs.Bool.{then_some}
use Rattle.inst.specs.declared.Inst.{Inst}
use Rattle.inst.specs.Records.{part, same}
use Rattle.machine.specs.declared.Label.{Label}
use Rattle.machine.specs.Load.{halt, is_native, is_halt, name_of, start_name, linked, Scan, Entry, no_entry, entry, last_of, any_native, last_is_halt}
use Rattle.loader.specs.Reading.{target_of, counts_of, counted, labelled}

or_assoc : (a b c : Bool) → (a || (b || c)) ≡ ((a || b) || c)
or_assoc true b c = refl
or_assoc false b c = refl

-- lists that are one longer
snoc_long : {A : Type 0} (xs : List A) (x : A) → length (xs ++ (x ∷ [])) ≡ length xs + 1
snoc_long xs x = length-append xs (x ∷ [])

-- the last instruction of those read
unfoldable pub last_inst : List Inst → Inst
last_inst [] = halt
last_inst (i ∷ []) = i
last_inst (i ∷ j ∷ is) = last_inst (j ∷ is)

pub snoc_last : (is : List Inst) (i : Inst) → last_inst (is ++ (i ∷ [])) ≡ i
unfolding last_inst
snoc_last [] i = refl
snoc_last (j ∷ []) i = refl
snoc_last (j ∷ k ∷ is) i = snoc_last (k ∷ is) i

snoc_halts : (is : List Inst) (i : Inst) → last_is_halt (is ++ (i ∷ [])) ≡ is_halt i
unfolding last_is_halt
snoc_halts [] i = refl
snoc_halts (j ∷ []) i = refl
snoc_halts (j ∷ k ∷ is) i = snoc_halts (k ∷ is) i

pub snoc_native : (is : List Inst) (i : Inst) → any_native (is ++ (i ∷ [])) ≡ (any_native is || is_native i)
unfolding any_native
snoc_native [] i = or_false (is_native i)
  where
    or_false : (b : Bool) → (b || false) ≡ b
    or_false true = refl
    or_false false = refl
snoc_native (j ∷ is) i = rw (snoc_native is i) (or_assoc (is_native j) (any_native is) (is_native i))

module _ (image : List ℕ) where
  -- the last of definitions with one more
  snoc_entry : (ls : List Label) (e : Entry) (l : Label)
      → last_of image start_name e (ls ++ (l ∷ [])) ≡ cond (same start_name (name_of image l)) (entry l.target) (last_of image start_name e ls)
  unfolding last_of
  snoc_entry [] e l = refl
  snoc_entry (k ∷ ls) e l = snoc_entry ls _ l

  target_more : (b : Bool) (n : ℕ) (e : Entry) → target_of (cond b (entry n) e) ≡ option_or (then_some b n) (target_of e)
  unfolding target_of
  target_more true n e = refl
  target_more false n e = refl

  -- an instruction that is no label
  pub counts_plain : (s : Scan) (i : Inst) (size : ℕ)
      → counts_of image (record { at = s.at + size; insts = s.insts ++ (i ∷ []); labels = s.labels }) ≡ counted (counts_of image s) i.typ size
  unfolding counts_of
  counts_plain s i size = rw (snoc_long, snoc_native, snoc_halts)

  -- a label
  pub counts_label : (at : ℕ) (is : List Inst) (ls : List Label) (i : Inst) (size : ℕ) → 0 < length ls
      → counts_of image (record { at = at + size; insts = is ++ (i ∷ []); labels = linked i (length is) ls })
      ≡ labelled (counted (counts_of image (record { at = at; insts = is; labels = ls })) i.typ size) (then_some (same start_name (part image i.start i.len)) (length is))
  unfolding counts_of linked
  counts_label at is [] i size h = absurd (omega arith)
  counts_label at is (k ∷ ls) i size h =
      let l : Label = record { start = i.start; len = i.len; target = length is; next = k.next } in
      simp (snoc_long, snoc_native, snoc_halts, snoc_entry ls no_entry l, target_more, suc-add)
