-- A machine's fields written one behind the other. Assumes nothing.
use Prim.Native.Nat.{ℕ, ◌+◌, ◌-◌}
use mathlib.Core.Path.{◌≡◌, refl, ap, sym, ◌∙◌}
use mathlib.Core.Bool.{Bool, true, false, cond}
use mathlib.Core.List.{List, [], ◌∷◌, ◌++◌, append_assoc}
use native.Mathlib.Omega.{arith}
use lib.ListN.{length, take, drop, set, length-append, length-drop}
use lib.Seq.{sets, length-sets, length-take-le}
use Rattle.word.specs.Words.{eight_of}
use Rattle.inst.proofs.Laws.{sets_more}
use Rattle.machine.specs.Limits.{stack_limit, call_limit, memory_size}
use Rattle.tables.specs.Tables.{bytes_of}
use Rattle.tables.proofs.Bytes.{length_bytes, stored_more}
use Rattle.inst.proofs.Parts.{lent_whole, sets_whole}
use Rattle.std.specs.Int.{from_bool}
use Rattle.step_core.specs.declared.Registers.{Registers}
use Rattle.step_core.specs.Parts.{height_of_calls, of_parts}
use Rattle.machine_bytes.specs.Layout.{calls_at, memory_at, height_at, call_height_at, ip_at, flags_at, halted_at, machine_size, machine_bytes}

-- the memory's part
pub part_long : (m : List ℕ) → length m ≡ machine_size → length (take (height_at - memory_at) (drop memory_at m)) ≡ memory_size
part_long m h = length-take-le memory_size (drop memory_at m) (omega (arith, length-drop memory_at m))

-- the arrays
module _ (s ca me : List ℕ) (ls : length s ≡ stack_limit) (lc : length ca ≡ call_limit) (lm : length me ≡ memory_size) where
  abbrev stacks : List ℕ
  stacks = bytes_of s ++ bytes_of ca

  pub length_stacks : length stacks ≡ memory_at
  length_stacks = length-append (bytes_of s) (bytes_of ca) ∙ omega (arith, length_bytes s, length_bytes ca)

  pub length_arrays : length (stacks ++ me) ≡ height_at
  length_arrays = length-append stacks me ∙ omega (arith, length_stacks)

  pub arrays_stored : (m m1 m2 ys : List ℕ) → length m ≡ machine_size → m1 ≡ sets m 0 (bytes_of s) → m2 ≡ sets m1 calls_at (bytes_of ca)
      → ys ≡ me
      → take memory_at m2 ++ (ys ++ drop (height_at - memory_at) (drop memory_at m2)) ≡ sets m 0 (stacks ++ me)
  arrays_stored m m1 m2 ys long p q r =
      let k : calls_at ≡ 0 + length (bytes_of s) = omega (arith, length_bytes s) in
      let w : memory_at ≡ 0 + length stacks = omega (arith, length_stacks) in
      let both : m2 ≡ sets m 0 stacks =
      q ∙ ap (λ (x : List ℕ). sets x calls_at (bytes_of ca)) p ∙ ap (λ (n : ℕ). sets (sets m 0 (bytes_of s)) n (bytes_of ca)) k ∙ sets_more (bytes_of s) m (bytes_of ca) 0 in
      let size : length m2 ≡ machine_size = ap length both ∙ length-sets m 0 stacks ∙ long in
      let last : length ys ≡ memory_size = ap length r ∙ lm in
      lent_whole m2 ys memory_at height_at (omega arith) (omega arith) last
      ∙ ap (λ (x : List ℕ). sets x memory_at ys) both
      ∙ ap (λ (x : List ℕ). sets (sets m 0 stacks) memory_at x) r
      ∙ ap (λ (n : ℕ). sets (sets m 0 stacks) n me) w
      ∙ sets_more stacks m me 0

-- the numbers, flags and halted
pub three : (h ch ip : ℕ) (rest : List ℕ) → eight_of h ++ (eight_of ch ++ (eight_of ip ++ rest)) ≡ bytes_of (h ∷ ch ∷ ip ∷ []) ++ rest
unfolding bytes_of eight_of
three h ch ip rest = refl

pub regs_stored : (m m1 m2 m3 : List ℕ) (h ch ip f b : ℕ) → m1 ≡ sets m height_at (eight_of h) → m2 ≡ sets m1 call_height_at (eight_of ch) → m3 ≡ sets m2 ip_at (eight_of ip)
    → set (set m3 flags_at f) halted_at b ≡ sets m height_at (bytes_of (h ∷ ch ∷ ip ∷ []) ++ (f ∷ b ∷ []))
regs_stored m m1 m2 m3 h ch ip f b p q r =
    let rest = f ∷ b ∷ [] in
    ap (λ (x : List ℕ). sets x flags_at rest) r
    ∙ stored_more m2 rest ip ip_at flags_at refl
    ∙ ap (λ (x : List ℕ). sets x ip_at (eight_of ip ++ rest)) q
    ∙ stored_more m1 (eight_of ip ++ rest) ch call_height_at ip_at refl
    ∙ ap (λ (x : List ℕ). sets x call_height_at (eight_of ch ++ (eight_of ip ++ rest))) p
    ∙ stored_more m (eight_of ch ++ (eight_of ip ++ rest)) h height_at call_height_at refl
    ∙ ap (sets m height_at) (three h ch ip rest)

-- a flag as a byte
pub byte_is : (b : Bool) → from_bool b ≡ cond b 1 0
byte_is true = refl
byte_is false = refl

-- all of them
pub parts_stored : (c : Registers) (f : ℕ) (halted : Bool) (m s ca me m1 m2 : List ℕ) → length m ≡ machine_size
    → m1 ≡ sets m 0 (bytes_of s ++ bytes_of ca ++ me)
    → length (bytes_of s ++ bytes_of ca ++ me) ≡ height_at
    → m2 ≡ sets m1 height_at (bytes_of (c.height ∷ height_of_calls c ∷ c.ip ∷ []) ++ (f ∷ cond halted 1 0 ∷ []))
    → m2 ≡ machine_bytes (of_parts c f s ca me halted)
unfolding machine_bytes
parts_stored c f halted m s ca me m1 m2 long p n q =
    let front = bytes_of s ++ bytes_of ca ++ me in
    let numbers = bytes_of (c.height ∷ height_of_calls c ∷ c.ip ∷ []) in
    let rest = f ∷ cond halted 1 0 ∷ [] in
    let k : height_at ≡ 0 + length front = omega arith in
    let size : length (front ++ (numbers ++ rest)) ≡ length m =
    length-append front (numbers ++ rest) ∙ omega (arith, length-append numbers rest, length_bytes (c.height ∷ height_of_calls c ∷ c.ip ∷ [])) in
    q
    ∙ ap (λ (x : List ℕ). sets x height_at (numbers ++ rest)) p
    ∙ ap (λ (i : ℕ). sets (sets m 0 front) i (numbers ++ rest)) k
    ∙ sets_more front m (numbers ++ rest) 0
    ∙ sets_whole m (front ++ (numbers ++ rest)) size
    ∙ sym (append_assoc front numbers rest)
