-- Request b of a host's calls by their equations. Assumes nothing.
use Prim.Native.Nat.{ℕ}
use mathlib.Core.Path.{◌≡◌, refl, ap, sym, ◌∙◌}
use mathlib.Core.Bool.{Bool, true, false, cond}
use mathlib.Core.List.{List}
use lib.Dec.{leb}
use lib.ListN.{length, take}
use borrow.Author.Tests.{eq-eqb}
use Rattle.inst.specs.declared.Inst.{Inst}
use Rattle.machine.specs.Load.{Loaded, Load, accepts, insts_after, count_of}
use Rattle.machine.specs.Encode.{unencoded, encoded}
use Rattle.tables.specs.Tables.{insts_of, labels_of}
use Rattle.loader.specs.Loading.{load_of, insts_left}
use Rattle.loader.proofs.Left.{insts_left_lem}
use Rattle.machine_bytes.specs.Layout.{machine_size}
use Rattle.mm_host.specs.Calls as host
use Rattle.mm_host.proofs.Accepted as host-accepted
use Rattle.label_loader.specs.Loading as records
use Rattle.label_loader.proofs.Accepted as record-accepted
use Rattle.rewritten.specs.Rewritten.{written_into, Writes, Rewritten}
use Rattle.rewritten.specs.Host.{HostEncodes, HostWritten, HostCallsAreRewritten, RecordCallsAreRewritten}
use Rattle.rewritten.proofs.Calls.{front}
use Rattle.rewritten.proofs.Whole.{images_are_rewritten}

-- ---- an encoding

numbers_by : (b : Bool) (n : ℕ) → ((host.encoded_numbers (cond b (encoded n) (unencoded 10))).number ≡ cond b 0 10) × ((host.encoded_numbers (cond b (encoded n) (unencoded 10))).size ≡ cond b n 0)
unfolding host.encoded_numbers
numbers_by true n = (refl, refl)
numbers_by false n = (refl, refl)

-- by the definitions, where the table's bytes are those of a load of l
module _ (image insts' : List ℕ) (is : List Inst) (l : Loaded) (count : ℕ) (written : List ℕ) (e : insts_of insts' ≡ insts_after (accepts l) is) (n : count ≡ count_of l)
    (w : Writes image is l written) where
  call_is : (out : List ℕ) → let fits = leb (length written) (length out) in
      host.encode_call image insts' count out ≡ record { number = cond fits 0 10; size = cond fits (length written) 0; out = written_into written out }
  unfolding host.encode_call
  call_is out =
      let q = numbers_by (leb (length written) (length out)) (length written) in
      rw (e, n, w.output_is out, w.answer_is out, q.0, q.1)

  host_encodes : HostEncodes image insts' count written
  unfolding host.size_call host.encoded_numbers
  host_encodes =
      record {
        asks = rw (e, n, w.size_is);
        writes = call_is;
        front_is = λ out h. ap (λ (c : host.EncodeCall). take (length written) c.out) (call_is out) ∙ front written out h;
      }

host_written : (image insts insts' : List ℕ) (l : Loaded) (count : ℕ) → Rewritten image (insts_of insts) l → insts' ≡ insts_left (accepts l) insts → count ≡ count_of l
    → HostWritten image insts insts' count l
host_written image insts insts' l count w i n =
    record {
      rewritten = w;
      encodes = host_encodes image insts' (insts_of insts) l count w.written (ap insts_of i ∙ insts_left_lem (accepts l) insts) n w.writes;
      encodes_again = λ insts₂ h s. host_encodes w.written (insts_left (accepts l) insts₂) (insts_of insts₂) l count w.written (insts_left_lem (accepts l) insts₂) n (w.writes_again s (insts_of insts₂) h);
    }

-- ---- a load that answers 0, and one more

load_is : (image insts labels machine : List ℕ) (x : Load) → length machine ≡ machine_size → load_of image insts labels ≡ x
    → host.load_call image insts labels machine ≡ host.loaded_by x insts labels machine
unfolding host.load_call
load_is image insts labels machine x m e = rw (eq-eqb (length machine) machine_size m, e)

pub host_calls_are_rewritten : HostCallsAreRewritten
unfolding host.loaded_by host_written
host_calls_are_rewritten image insts labels machine r bytes e z =
    let x = host-accepted.load_accepted image insts labels machine r e z in
    let l = x.0 in
    let q = x.2 in
    let w = images_are_rewritten image (insts_of insts) (labels_of labels) l bytes x.1 in
    record {
      loaded = l;
      accepted = x.1;
      leaves = sym q;
      wrote = host_written image insts r.insts l r.count w (sym (ap (λ (c : host.LoadCall). c.insts) q)) (sym (ap (λ (c : host.LoadCall). c.count) q));
      loads_again = λ insts₂ labels₂ machine₂ i k m. load_is w.written insts₂ labels₂ machine₂ _ m (w.loads_again (insts_of insts₂) (labels_of labels₂) i k);
    }

pub record_calls_are_rewritten : RecordCallsAreRewritten
unfolding records.loaded_by records.load_call host_written
record_calls_are_rewritten image insts labels r bytes e z =
    let x = record-accepted.load_accepted image insts labels r e z in
    let l = x.0 in
    let q = x.2 in
    let w = images_are_rewritten image (insts_of insts) labels l bytes x.1 in
    record {
      loaded = l;
      accepted = x.1;
      leaves = sym q;
      wrote = host_written image insts r.insts l r.count w (sym (ap (λ (c : records.LoadCall). c.insts) q)) (sym (ap (λ (c : records.LoadCall). c.count) q));
      loads_again = λ insts₂ labels₂ i k. ap (λ (x : Load). records.loaded_by x insts₂ labels₂) (w.loads_again (insts_of insts₂) labels₂ i k);
    }
