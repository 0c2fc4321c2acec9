-- Laws of courses and of a buffer whose rest was lent. Assumes nothing.
use Prim.Native.Nat.{ℕ, zero, suc, ◌<◌, ◌-◌, ◌+◌, ◌*◌, ◌/◌}
use mathlib.Core.Path.{◌≡◌, refl, ◌∙◌, sym, ap}
use mathlib.Core.Bool.{true, false}
use mathlib.Core.List.{List, [], ◌∷◌, ◌++◌, append-nil, append_assoc}
use native.Mathlib.Numerals.{add-one}
use native.Mathlib.Nat.{zero-add, add-zero}
use native.Mathlib.Omega.{arith}
use lib.ListN.{length, take}
use lib.Seq.{sets, take-suc-set, length-take-le}
use Rattle.inst.proofs.Laws.{sets_more}
use Rattle.word.specs.Words.{eight_of}
use Rattle.tables.specs.Tables.{numbers_in, bytes_of}
use Rattle.tables.proofs.Bytes.{length_numbers_in, number_set, length_bytes, bytes_append}
use Rattle.machine.specs.declared.Machine.{Machine}
use Rattle.machine.specs.Ending.{Ending, Halted, Limit, Number}
use Rattle.machine.specs.Lookup.{Program}
use Rattle.machine.specs.Step.{ill, step, well_state}
use Rattle.machine.specs.Run.{Course, ended, after, is_ill, turn, course}
use Rattle.quick.specs.Courses.{plus}
use Rattle.quick.proofs.Turns.{course_turn, before_halted, before_limit, before_ill}
use Rattle.run.specs.Turns.{more, Rests, Written}

pub more_none : (r : Course) → more 0 [] r ≡ r
unfolding more
more_none r = simp zero-add

pub more_plus : (k j : ℕ) (out : List ℕ) (r : Course) → more k out (plus j r) ≡ more (k + j) out r
unfolding more
more_plus k j out r = let e : k + (j + r.steps) ≡ k + j + r.steps = omega arith in rw e

pub more_next : (k : ℕ) (out : List ℕ) (r : Course) → more k out (after [] r) ≡ more (k + 1) out r
unfolding more
more_next k out r = let e : k + suc r.steps ≡ k + 1 + r.steps = omega arith in rw e

pub more_dump : (k x : ℕ) (out : List ℕ) (r : Course) → more k out (after (x ∷ []) r) ≡ more (k + 1) (out ++ (x ∷ [])) r
unfolding more
more_dump k x out r = let e : k + suc r.steps ≡ k + 1 + r.steps = omega arith in simp (e, append_assoc)

pub more_ended : (k j : ℕ) (out : List ℕ) (e : Ending) (m : Machine) → j ≡ 0 →
    more k out (ended e m) ≡ record { machine = m; ending = e; steps = k + j; cells = out }
unfolding more
more_ended k j out e m z = simp (z, add-zero, append-nil)

pub more_last : (k j : ℕ) (out : List ℕ) (e : Ending) (m : Machine) → j ≡ 1 →
    more k out (after [] (ended e m)) ≡ record { machine = m; ending = e; steps = k + j; cells = out }
more_last k j out e m z = more_next k out (ended e m) ∙ more_ended (k + 1) 0 out e m refl ∙ (let q : k + 1 + 0 ≡ k + j = omega arith in rw q)

-- a course that makes no step
module _ (p : Program) (left room : ℕ) (m : Machine) where
  pub halts : m.halted ≡ true → course p left room m ≡ ended Halted m
  unfolding course turn
  halts h = by left
    where
      by : (n : ℕ) → course p n room m ≡ ended Halted m
      by zero = ap (turn m (λ (r : ℕ). ended Limit) room (step p m)) (before_halted m 0 room (step p m) h)
      by (suc n) = ap (turn m (course p n) room (step p m)) (before_halted m (suc n) room (step p m) h)

  module _ (h : m.halted ≡ false) where
    pub spends : left ≡ 0 → course p left room m ≡ ended Limit m
    unfolding course turn
    spends z = rw z (ap (turn m (λ (r : ℕ). ended Limit) room (step p m)) (before_limit m 0 room (step p m) h refl))

    pub ills : 0 < left → well_state p m ≡ false → course p left room m ≡ ended (Number 34) m
    unfolding turn step is_ill
    ills l w =
        let e : step p m ≡ ill = rw w refl in
        let i : is_ill (step p m) ≡ true = rw e refl in
        course_turn p left room m l ∙ ap (turn m (course p (left - 1)) room (step p m)) (before_ill m left room (step p m) h l i)

pub resting : (p : Program) (left : ℕ) → Rests (course p left)
resting p left room m h = halts p left room m h

-- a cell more
pub took : (b : List ℕ) (n x : ℕ) → n < length b / 8 → take (n + 1) (numbers_in (sets b (n * 8) (eight_of x))) ≡ take n (numbers_in b) ++ (x ∷ [])
took b n x h =
    let l : n < length (numbers_in b) = rw (length_numbers_in b) h in
    rw (number_set b n x, add-one, take-suc-set (numbers_in b) n x l) refl

-- the buffer with none, and with one more
pub none_written : (b : List ℕ) → Written 0 b b
unfolding bytes_of
none_written b = refl

pub cell_written : (b b₀ : List ℕ) (n x : ℕ) → n < length b / 8 → Written n b₀ b → Written (n + 1) b₀ (sets b (n * 8) (eight_of x))
unfolding bytes_of eight_of
cell_written b b₀ n x h e =
    let cells = take n (numbers_in b) in
    let l = length_numbers_in b in
    let m : length cells ≡ n = length-take-le n (numbers_in b) (omega arith) in
    let k : n * 8 ≡ 0 + length (bytes_of cells) = omega (arith, length_bytes cells) in
    ap (λ (y : List ℕ). sets y (n * 8) (eight_of x)) e
    ∙ ap (λ (i : ℕ). sets (sets b₀ 0 (bytes_of cells)) i (eight_of x)) k
    ∙ sets_more (bytes_of cells) b₀ (eight_of x) 0
    ∙ ap (sets b₀ 0) (sym (bytes_append cells (x ∷ [])))
    ∙ ap (λ (y : List ℕ). sets b₀ 0 (bytes_of y)) (sym (took b n x h))
