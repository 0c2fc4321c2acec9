-- A machine crosses as bytes and comes back. Assumes nothing.
use Prim.Native.Nat.{ℕ, ◌+◌, ◌-◌}
use mathlib.Core.Path.{◌≡◌, refl, ap, sym, ◌∙◌}
use mathlib.Core.Bool.{Bool, true, false, cond}
use mathlib.Core.List.{List, [], ◌∷◌, ◌++◌, append_assoc}
use native.Mathlib.Omega.{arith}
use lib.Dec.{eqb, ltb}
use lib.ListN.{length, take, get_or, length-append}
use lib.Seq.{slice, take_at, drop_at, get_or_at}
use borrow.Author.Tests.{eq-eqb}
use Rattle.word.specs.Words.{little_endian, word, eight_of}
use Rattle.word.proofs.Laws.{number_back}
use Rattle.inst.proofs.Laws.{slice_of}
use Rattle.machine.specs.declared.Machine.{Machine}
use Rattle.machine.specs.Change.{height_of_calls}
use Rattle.tables.specs.Tables.{numbers_in, bytes_of}
use Rattle.tables.proofs.Bytes.{length_bytes}
use Rattle.machine_bytes.specs.Layout.{Sized, calls_at, memory_at, height_at, call_height_at, ip_at, flags_at, halted_at, machine_size, is_machine, machine_of, machine_bytes}
use Rattle.machine_bytes.proofs.Fields.{length_arrays, three}

numbers_back : (vs : List ℕ) → numbers_in (bytes_of vs) ≡ vs
unfolding numbers_in bytes_of eight_of
numbers_back [] = refl
numbers_back (v ∷ vs) = rw (number_back v, numbers_back vs)

-- a part with what stands before and behind it
part_is : (xs ys zs : List ℕ) (from to : ℕ) → length xs ≡ from → from + length ys ≡ to → slice from to (xs ++ (ys ++ zs)) ≡ ys
part_is xs ys zs from to f t =
    let n : length ys ≡ to - from = omega arith in
    sym (slice_of from to (xs ++ (ys ++ zs))) ∙ ap (take (to - from)) (drop_at xs (ys ++ zs) from f) ∙ take_at ys zs (to - from) n

length_eight : (v : ℕ) → length (eight_of v) ≡ 8
unfolding eight_of
length_eight v = refl

eight_back : (v : ℕ) → little_endian (eight_of v) ≡ v
unfolding eight_of
eight_back v = number_back v

number_is : (xs zs : List ℕ) (v at : ℕ) → length xs ≡ at → word (xs ++ (eight_of v ++ zs)) at ≡ v
number_is xs zs v at f = ap little_endian (part_is xs (eight_of v) zs at (at + 8) f (ap (λ (n : ℕ). at + n) (length_eight v))) ∙ eight_back v

halted_back : (b : Bool) → eqb (cond b 1 0) 1 ≡ b
halted_back true = refl
halted_back false = refl

below_two : (b : Bool) → ltb (cond b 1 0) 2 ≡ true
below_two true = refl
below_two false = refl

-- field by field
same_machine : (m : Machine) (s : List ℕ) (h : ℕ) (ca : List ℕ) (ch : ℕ) (me : List ℕ) (f ip : ℕ) (b : Bool) → s ≡ m.stack → h ≡ m.height → ca ≡ m.calls → ch ≡ height_of_calls m
    → me ≡ m.memory → f ≡ m.flags → ip ≡ m.ip → b ≡ m.halted
    → record { stack = s; height = h; calls = ca; call_height = ch; memory = me; flags = f; ip = ip; halted = b } ≡ m
same_machine m s h ca ch me f ip b e1 e2 e3 e4 e5 e6 e7 e8 = rw (e1, e2, e3, e4, e5, e6, e7, e8) refl

-- the bytes of m, cut before and behind each field
module _ (m : Machine) (s : Sized m) where
  halted : ℕ
  halted = cond m.halted 1 0

  abbrev front : List ℕ
  front = bytes_of m.stack ++ bytes_of m.calls ++ m.memory

  abbrev numbers : List ℕ
  numbers = bytes_of (m.height ∷ height_of_calls m ∷ m.ip ∷ [])

  rest : List ℕ
  rest = m.flags ∷ halted ∷ []

  all : List ℕ
  all = front ++ numbers ++ rest

  front_long : length front ≡ height_at
  front_long = length_arrays m.stack m.calls m.memory s.stack_long s.calls_long s.memory_long

  numbers_long : length numbers ≡ 24
  numbers_long = length_bytes (m.height ∷ height_of_calls m ∷ m.ip ∷ [])

  before_flags : length (front ++ numbers) ≡ flags_at
  before_flags = length-append front numbers ∙ omega (arith, front_long, numbers_long)

  stacks_long : length (bytes_of m.stack ++ bytes_of m.calls) ≡ memory_at
  stacks_long = length-append (bytes_of m.stack) (bytes_of m.calls) ∙ omega (arith, length_bytes m.stack, length_bytes m.calls, s.stack_long, s.calls_long)

  at_memory : all ≡ (bytes_of m.stack ++ bytes_of m.calls) ++ (m.memory ++ (numbers ++ rest))
  unfolding all
  at_memory = append_assoc front numbers rest ∙ append_assoc (bytes_of m.stack ++ bytes_of m.calls) m.memory (numbers ++ rest)

  at_calls : all ≡ bytes_of m.stack ++ (bytes_of m.calls ++ (m.memory ++ (numbers ++ rest)))
  at_calls = at_memory ∙ append_assoc (bytes_of m.stack) (bytes_of m.calls) (m.memory ++ (numbers ++ rest))

  at_height : all ≡ front ++ (eight_of m.height ++ (eight_of (height_of_calls m) ++ (eight_of m.ip ++ rest)))
  unfolding all
  at_height = append_assoc front numbers rest ∙ ap (λ (x : List ℕ). front ++ x) (sym (three m.height (height_of_calls m) m.ip rest))

  at_call_height : all ≡ (front ++ eight_of m.height) ++ (eight_of (height_of_calls m) ++ (eight_of m.ip ++ rest))
  at_call_height = at_height ∙ sym (append_assoc front (eight_of m.height) (eight_of (height_of_calls m) ++ (eight_of m.ip ++ rest)))

  at_ip : all ≡ (front ++ eight_of m.height ++ eight_of (height_of_calls m)) ++ (eight_of m.ip ++ rest)
  at_ip = at_call_height ∙ sym (append_assoc (front ++ eight_of m.height) (eight_of (height_of_calls m)) (eight_of m.ip ++ rest))

  before_call_height : length (front ++ eight_of m.height) ≡ call_height_at
  before_call_height = length-append front (eight_of m.height) ∙ omega (arith, front_long, length_eight m.height)

  before_ip : length (front ++ eight_of m.height ++ eight_of (height_of_calls m)) ≡ ip_at
  before_ip = length-append (front ++ eight_of m.height) (eight_of (height_of_calls m)) ∙ omega (arith, before_call_height, length_eight (height_of_calls m))

  stack_back : numbers_in (slice 0 calls_at all) ≡ m.stack
  stack_back =
      ap (λ (x : List ℕ). numbers_in (slice 0 calls_at x)) at_calls
      ∙ ap numbers_in (part_is [] (bytes_of m.stack) _ 0 calls_at refl (omega (arith, length_bytes m.stack, s.stack_long)))
      ∙ numbers_back m.stack

  calls_back : numbers_in (slice calls_at memory_at all) ≡ m.calls
  calls_back =
      ap (λ (x : List ℕ). numbers_in (slice calls_at memory_at x)) at_calls
      ∙ ap numbers_in (part_is (bytes_of m.stack) (bytes_of m.calls) _ calls_at memory_at (omega (arith, length_bytes m.stack, s.stack_long)) (omega (arith, length_bytes m.calls, s.calls_long)))
      ∙ numbers_back m.calls

  memory_back : slice memory_at height_at all ≡ m.memory
  memory_back =
      ap (slice memory_at height_at) at_memory
      ∙ part_is (bytes_of m.stack ++ bytes_of m.calls) m.memory (numbers ++ rest) memory_at height_at stacks_long (omega (arith, s.memory_long))

  height_back : word all height_at ≡ m.height
  height_back = ap (λ (x : List ℕ). word x height_at) at_height ∙ number_is front _ m.height height_at front_long

  call_height_back : word all call_height_at ≡ height_of_calls m
  call_height_back = ap (λ (x : List ℕ). word x call_height_at) at_call_height ∙ number_is (front ++ eight_of m.height) _ (height_of_calls m) call_height_at before_call_height

  ip_back : word all ip_at ≡ m.ip
  ip_back = ap (λ (x : List ℕ). word x ip_at) at_ip ∙ number_is (front ++ eight_of m.height ++ eight_of (height_of_calls m)) rest m.ip ip_at before_ip

  flags_back : get_or all flags_at 0 ≡ m.flags
  unfolding all rest
  flags_back = get_or_at (front ++ numbers) m.flags (halted ∷ []) 0 flags_at before_flags

  halted_is : get_or all halted_at 0 ≡ halted
  unfolding all rest
  halted_is =
      ap (λ (x : List ℕ). get_or x halted_at 0) (sym (append_assoc (front ++ numbers) (m.flags ∷ []) (halted ∷ [])))
      ∙ get_or_at (front ++ numbers ++ (m.flags ∷ [])) halted [] 0 halted_at (length-append (front ++ numbers) (m.flags ∷ []) ∙ omega (arith, before_flags))

  all_long : length all ≡ machine_size
  unfolding all rest
  all_long = length-append (front ++ numbers) rest ∙ omega (arith, before_flags)

  pub is_a_machine : is_machine (machine_bytes m) ≡ true
  unfolding is_machine machine_bytes all rest halted
  is_a_machine = rw (eq-eqb _ _ all_long, halted_is, below_two m.halted)

  pub machine_back : machine_of (machine_bytes m) ≡ m
  unfolding machine_of machine_bytes all rest halted
  machine_back = same_machine m _ _ _ _ _ _ _ _ stack_back height_back calls_back call_height_back memory_back flags_back ip_back (ap (λ (n : ℕ). eqb n 1) halted_is ∙ halted_back m.halted)
