-- The runs of an image, printed one behind the other. Assumes nothing.
use Prim.Native.Nat.{ℕ, zero, suc, ◌+◌, ◌*◌, ◌-◌, ◌/◌, ◌≤◌, ◌<◌}
use mathlib.Core.Path.{◌≡◌, refl, ap, ◌∙◌, sym}
use mathlib.Core.Bool.{Bool, true, false}
use mathlib.Core.List.{List, [], ◌∷◌, ◌++◌, append_assoc}
use native.Mathlib.Nat.{zero-add, add_assoc, sub-add-eq}
use native.Mathlib.Omega.{arith}
use lib.Dec.{lit<}
use lib.ListN.{length, take, length-append}
use lib.Seq.{sets, length-sets}
use Rattle.machine.specs.declared.Machine.{Machine}
use Rattle.machine.specs.Ending.{Ending, Number}
use Rattle.machine.specs.Change.{height_of_calls}
use Rattle.machine.specs.Lookup.{Program}
use Rattle.machine.specs.Run.{Course, course, Result, reported, run}
use Rattle.machine.proofs.Histories.{front}
use Rattle.word.specs.Words.{number_of}
use Rattle.tables.specs.Tables.{numbers_in, bytes_of}
use Rattle.tables.proofs.Bytes.{length_numbers_in}
use Rattle.run.specs.Runs.{run_bytes}
use Rattle.report.specs.Text.{cell_lines, end_line, Put}
use Rattle.report.proofs.Laws.{put_both, lines_append, length_lines, end_line_short}
use Rattle.transcript.specs.Transcript.{is_full, joined, continued, in_all, report, steps_in_all, dump_room, text_size}
use Rattle.transcript.proofs.Joined.{Front, fronts, one_run, buffer_unseen}

-- a buffer of 64 cells, and that a run keeps its length
pub sixty_four : (b : List ℕ) → length b ≡ 512 → length (numbers_in b) ≡ dump_room
sixty_four b e = let l = length_numbers_in b in omega arith

pub same_bytes : (p : Program) (limit : ℕ) (b : List ℕ) (m : Machine) (x : Result) → x ≡ run_bytes p limit b m → length x.buffer ≡ length b
unfolding run_bytes
same_bytes p limit b m x e = ap (λ (y : Result). length y.buffer) e ∙ length-sets b 0 (bytes_of (course p limit (length b / 8) m).cells)

-- the cells of a buffer's front
eighth : (n : ℕ) → suc n * 8 ≡ suc (suc (suc (suc (suc (suc (suc (suc (n * 8))))))))
eighth n = omega arith

pub front_numbers : (n : ℕ) (b : List ℕ) → n * 8 ≤ length b → numbers_in (take (n * 8) b) ≡ take n (numbers_in b)
unfolding numbers_in
front_numbers zero b l = refl
front_numbers (suc n) [] l = absurd (omega arith)
front_numbers (suc n) (x ∷ []) l = absurd (omega arith)
front_numbers (suc n) (x ∷ y ∷ []) l = absurd (omega arith)
front_numbers (suc n) (x ∷ y ∷ z ∷ []) l = absurd (omega arith)
front_numbers (suc n) (x ∷ y ∷ z ∷ u ∷ []) l = absurd (omega arith)
front_numbers (suc n) (x ∷ y ∷ z ∷ u ∷ v ∷ []) l = absurd (omega arith)
front_numbers (suc n) (x ∷ y ∷ z ∷ u ∷ v ∷ w ∷ []) l = absurd (omega arith)
front_numbers (suc n) (x ∷ y ∷ z ∷ u ∷ v ∷ w ∷ q ∷ []) l = absurd (omega arith)
front_numbers (suc n) (x ∷ y ∷ z ∷ u ∷ v ∷ w ∷ q ∷ r ∷ b) l = simp eighth (ap (λ ns. number_of x y z u v w q r ∷ ns) (front_numbers n b (omega arith)))

-- three runs joined
continued_joined : (rest : ℕ → Machine → Course) (limit : ℕ) (r s : Course) (b : Bool)
    → joined r (continued rest (limit - r.steps) s b) ≡ continued rest limit (joined r s) b
unfolding continued
continued_joined rest limit r s true = simp (sub-add-eq, add_assoc, append_assoc)
continued_joined rest limit r s false = refl

-- the run so far, as one: m is its machine, e its ending, `at` the offset behind its lines. It leads to the one run with room for every cell
pub record Printing (p : Program) (m₀ : Machine) (t₀ t : List ℕ) (m : Machine) (e : Ending) (steps at : ℕ) : Type 0 where
  pub cells : List ℕ
  pub lines : Put t₀ 0 (cell_lines cells) t at
  pub fewer : length cells ≤ steps
  pub within : steps ≤ steps_in_all
  pub leads : continued (λ l. course p l l) steps_in_all (record { machine = m; ending = e; steps = steps; cells = cells }) (is_full e) ≡ course p steps_in_all steps_in_all m₀

pub begins : (p : Program) (m : Machine) (t : List ℕ) → Printing p m t t m (Number 33) 0 0
unfolding cell_lines continued is_full
begins p m t =
    record { cells = []; lines = record { text_is = refl; next_is = refl }; fewer = omega arith; within = omega arith; leads = rw zero-add }

-- a run that ended with a full buffer, and what is left from its machine on, as before the first
pub full : is_full (Number 33) ≡ true
unfolding is_full
full = refl

pub resumed : {p : Program} {m₀ : Machine} {t₀ t : List ℕ} {m : Machine} {e : Ending} {steps at : ℕ} → Printing p m₀ t₀ t m e steps at → is_full e ≡ true
    → Printing p m₀ t₀ t m (Number 33) steps at
unfolding continued is_full
resumed s f = record { cells = s.cells; lines = s.lines; fewer = s.fewer; within = s.within; leads = rw f at s.leads }

-- What a run more comes to, of what was lent and is answered: x is the answer
pub record Turned (p : Program) (m₀ : Machine) (t₀ t : List ℕ) (e : Ending) (steps at : ℕ) (x : Result) : Type 0 where
  pub fits : x.dumped ≤ length x.buffer
  pub same_room : length x.buffer ≡ dump_room
  pub fewer : x.steps ≤ steps_in_all - steps
  pub room : length t ≡ text_size → at + length (cell_lines (take x.dumped x.buffer)) ≤ length t
  pub goes : {t' : List ℕ} {at' : ℕ} → Put t at (cell_lines (take x.dumped x.buffer)) t' at' → Printing p m₀ t₀ t' x.machine x.ending (steps + x.steps) at'
  pub falls : is_full x.ending ≡ true → 0 < x.steps

module _ {p : Program} {m₀ : Machine} {t₀ t : List ℕ} {m : Machine} {e : Ending} {steps at : ℕ} (s : Printing p m₀ t₀ t m e steps at) where
  module _ (f : is_full e ≡ true) (buffer : List ℕ) (sixty_four : length buffer ≡ dump_room) where
    abbrev r : Course
    r = course p (steps_in_all - steps) dump_room m

    counts : Front p 0 (steps_in_all - steps) dump_room r (course p (steps_in_all - steps) (dump_room + 0) m)
    counts = fronts p 0 (steps_in_all - steps) dump_room m

    cells_are : take (length r.cells) (sets buffer 0 r.cells) ≡ r.cells
    cells_are = front r.cells buffer (rw sixty_four counts.fits)

    goes_on : {t' : List ℕ} {at' : ℕ} → Put t at (cell_lines (take (length r.cells) (sets buffer 0 r.cells))) t' at'
        → Printing p m₀ t₀ t' r.machine r.ending (steps + r.steps) at'
    unfolding continued
    goes_on put =
        let both = put_both s.lines (rw cells_are at put) in
        let r₀ : Course = record { machine = m; ending = e; steps = steps; cells = s.cells } in
        record {
          cells = s.cells ++ r.cells;
          lines = rw lines_append both;
          fewer = rw length-append (omega (arith, s.fewer, counts.fewer));
          within = omega (arith, s.within, counts.within);
          leads = sym (continued_joined (λ l. course p l l) steps_in_all r₀ r (is_full r.ending))
              ∙ ap (joined r₀) (sym (one_run p dump_room (steps_in_all - steps) m (lit< tt)))
              ∙ (rw f at s.leads);
        }

    ran : Turned p m₀ t₀ t e steps at (reported buffer r)
    unfolding reported
    ran =
        record {
          fits = rw length-sets (rw sixty_four counts.fits);
          same_room = length-sets buffer 0 r.cells ∙ sixty_four;
          fewer = counts.within;
          room = λ long.
              rw cells_are (omega (arith, length_lines r.cells, length_lines s.cells, s.lines.next_is, s.fewer, s.within, counts.within, counts.fewer));
          goes = goes_on;
          falls = λ c. omega (arith, (counts.full c).0, (counts.full c).1, counts.fewer);
        }

    pub turned : (x : Result) → x ≡ run p (steps_in_all - steps) buffer m → Turned p m₀ t₀ t e steps at x
    unfolding run
    turned x is = rw (is, sixty_four) ran

  module _ (f : is_full e ≡ false) where
    pub room_at_end : length t ≡ text_size → at + length (end_line e steps m.ip m.height (height_of_calls m)) ≤ length t
    room_at_end long =
        omega (arith, end_line_short e steps m.ip m.height (height_of_calls m), length_lines s.cells, s.lines.next_is, s.fewer, s.within)

    pub ends : {t' : List ℕ} {at' : ℕ} → Put t at (end_line e steps m.ip m.height (height_of_calls m)) t' at'
        → Put t₀ 0 (report (in_all steps_in_all p dump_room steps_in_all m₀)) t' at'
    unfolding report continued
    ends put = rw (buffer_unseen p dump_room steps_in_all m₀ (lit< tt), ← (rw f at s.leads)) (put_both s.lines put)
