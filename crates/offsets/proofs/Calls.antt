-- The same of the calls, by their contracts. Assumes nothing.
use Prim.Native.Nat.{ℕ, ◌-◌, ◌^◌}
use mathlib.Core.Path.{◌≡◌, refl, ap, sym, ◌∙◌}
use mathlib.Core.Bool.{Bool, true, false, cond, ◌&&◌}
use mathlib.Core.List.{List}
use native.Mathlib.Omega.{arith}
use lib.Dec.{leb}
use lib.ListN.{length, take}
use borrow.Author.Tests.{le-leb}
use Rattle.std.specs.Prelude.{Ok}
use Rattle.inst.specs.declared.Inst.{Inst}
use Rattle.machine.specs.Encode.{all_well_formed, bytes_of_all, Encoded, unencoded, encoded, size_of, in_room, encode, encoded_size, output_after}
use Rattle.tables.specs.Tables.{insts_of}
use Rattle.encoder.specs.Encoder.{means}
use Rattle.encoder.proofs.Answers.{means_size}
use Rattle.mm_host.specs.Calls as host
use Rattle.offsets.specs.Offsets.{offset, WritesAtOffsets, CallsWrite, HostCallsAsk}
use Rattle.offsets.proofs.Offsets.{size_is_sum, writes}

module _ (image : List ℕ) (insts : List Inst) (count : ℕ) (out : List ℕ) where
  abbrev e : Encoded
  e = encode image insts count out

  -- an answer that means the definition's, and an output that is its output
  carried : (answers : ℕ → Type 0) (out' : List ℕ) → ((n : ℕ) → e ≡ encoded n → answers n) → ((n : ℕ) → answers n → e ≡ encoded n) → out' ≡ output_after e image insts count out
      → WritesAtOffsets image insts count out answers out'
  carried answers out' forth back o =
      let w = writes image insts count out in
      record {
        answers_sum = λ c h. forth _ (w.answers_sum c h);
        only_then = λ n a. w.only_then n (back n a);
        at_offsets = λ n a. rw o (w.at_offsets n (back n a));
        refused_is = λ f. o ∙ w.refused_is (λ n h. f n (forth n h));
      }

pub calls_write : CallsWrite
unfolding means
calls_write image insts count out r out' c =
    carried image (insts_of insts) count out (λ n. r ≡ Ok n) out' (λ n h. means_size r n (c.answers ∙ h)) (λ n h. sym c.answers ∙ ap means h) c.output_is

-- no refusal of an encoding is 0
unfoldable Sized : Encoded → Type 0
Sized x = (host.encoded_numbers x).number ≡ 0 → x ≡ encoded (host.encoded_numbers x).size

by_room : (b : Bool) (n : ℕ) → Sized (cond b (encoded n) (unencoded 10))
unfolding Sized host.encoded_numbers
by_room true n z = refl
by_room false n z = absurd (omega (arith, z))

by_records : (room : ℕ) (b : Bool) (n : ℕ) → Sized (in_room room (cond b (encoded n) (unencoded 9)))
unfolding in_room Sized host.encoded_numbers
by_records room true n z = by_room (leb n room) n z
by_records room false n z = absurd (omega (arith, z))

module _ (image insts : List ℕ) (count : ℕ) (out : List ℕ) (r : host.EncodeCall) (a : host.encode_call image insts count out ≡ r) where
  abbrev answer : Encoded
  answer = encode image (insts_of insts) count out

  number_is : (host.encoded_numbers answer).number ≡ r.number
  unfolding host.encode_call
  number_is = ap (λ (c : host.EncodeCall). c.number) a

  size_is : (host.encoded_numbers answer).size ≡ r.size
  unfolding host.encode_call
  size_is = ap (λ (c : host.EncodeCall). c.size) a

  output_is : output_after answer image (insts_of insts) count out ≡ r.out
  unfolding host.encode_call
  output_is = ap (λ (c : host.EncodeCall). c.out) a

  forth : (n : ℕ) → answer ≡ encoded n → (r.number ≡ 0) × (r.size ≡ n)
  unfolding host.encoded_numbers
  forth n h = (sym number_is ∙ ap (λ (x : Encoded). (host.encoded_numbers x).number) h, sym size_is ∙ ap (λ (x : Encoded). (host.encoded_numbers x).size) h)

  sized : Sized answer
  unfolding encode size_of
  sized = by_records (length out) (leb count (length (insts_of insts)) && all_well_formed image (take count (insts_of insts))) (length (bytes_of_all image (take count (insts_of insts))))

  back : (n : ℕ) → (r.number ≡ 0) × (r.size ≡ n) → answer ≡ encoded n
  unfolding Sized
  back n z = sized (number_is ∙ z.0) ∙ ap encoded (size_is ∙ z.1)

  pub host_calls_write : WritesAtOffsets image (insts_of insts) count out (λ n. (r.number ≡ 0) × (r.size ≡ n)) r.out
  host_calls_write = carried image (insts_of insts) count out (λ n. (r.number ≡ 0) × (r.size ≡ n)) r.out forth back (sym output_is)

pub host_calls_ask : HostCallsAsk
unfolding host.size_call host.encoded_numbers encoded_size in_room
host_calls_ask image insts k c h = rw (size_is_sum image (insts_of insts) k c, le-leb (offset (insts_of insts) k) (2 ^ 64 - 1) h)
