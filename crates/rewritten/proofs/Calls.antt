-- Request b of calls by their contracts. Assumes nothing.
use Prim.Native.Nat.{ℕ, ◌≤◌}
use mathlib.Core.Path.{◌≡◌, refl, ap, sym, ◌∙◌}
use mathlib.Core.Bool.{Bool, true, false, cond}
use mathlib.Core.List.{List}
use native.Mathlib.Omega.{arith}
use lib.Dec.{leb}
use lib.ListN.{length, take, drop}
use lib.Seq.{take-append_seam}
use borrow.Author.Tests.{le-leb}
use Rattle.inst.specs.declared.Inst.{Inst}
use Rattle.inst.specs.Records.{Bytes}
use Rattle.machine.specs.declared.Machine.{Machine}
use Rattle.machine.specs.Limits.{image_limit, inst_limit, label_records}
use Rattle.machine.specs.Load.{Loaded, Load, rejects, accepts, insts_after, fresh, count_of}
use Rattle.machine.specs.Encode.{unencoded, encoded}
use Rattle.tables.specs.Tables.{insts_of, labels_of}
use Rattle.std.specs.Prelude.{Result, Ok, Err}
use Rattle.loader.specs.declared.Accepted.{Accepted}
use Rattle.loader.specs.declared.refusal.Refusal.{Refusal}
use Rattle.loader.specs.declared.refusal.Refusal.TheVariants.{ImageTooLong, UndefinedByte, PastEnd, NameByte, TooManyInstructions, TooManyLabels, NoStart, Native, NoRoom}
use Rattle.loader.specs.Refusals.{number_of, numbered}
use Rattle.loader.specs.Loading.{Reply, refuses, starts, reply_of, fresh_at, load_of, insts_left, labels_left, FromBinary}
use Rattle.loader.specs.Loading as loader
use Rattle.loader.proofs.Left.{insts_left_lem}
use Rattle.encoder.specs.declared.EncodeError.{EncodeError}
use Rattle.encoder.specs.declared.EncodeError.TheVariants as unwritten
use Rattle.encoder.specs.Encoder as encoder
use Rattle.encoder.proofs.Answers.{other, number_in, means_size}
use Rattle.rewritten.specs.Rewritten.{written_into, Writes, loaded_again, Rewritten}
use Rattle.rewritten.specs.Calls.{Encodes, LoadsAgain, CallsRewritten, CallsAreRewritten}
use Rattle.rewritten.proofs.Whole.{images_are_rewritten}

-- ---- an encoding

means_number : (r : Result ℕ EncodeError) (n : ℕ) → encoder.means r ≡ unencoded n → (x : EncodeError) × (r ≡ Err x) × (encoder.number_of x ≡ n)
unfolding encoder.means
means_number (Err x) n h = (x, refl, ap number_in h)
means_number (Ok m) n h = other n m (sym h)

-- one error has the number 10
no_room : (x : EncodeError) → encoder.number_of x ≡ 10 → x ≡ unwritten.NoRoom
no_room unwritten.IllFormed e = cc
no_room unwritten.NoRoom e = refl

means_either : (r : Result ℕ EncodeError) (n : ℕ) (b : Bool) → encoder.means r ≡ cond b (encoded n) (unencoded 10) → r ≡ cond b (Ok n) (Err unwritten.NoRoom)
means_either r n true e = means_size r n e
means_either r n false e = let p = means_number r 10 e in p.1 ∙ ap Err (no_room p.0 p.2)

-- what is written is the output's front
pub front : (written out : List ℕ) → length written ≤ length out → take (length written) (written_into written out) ≡ written
front written out h = rw (le-leb (length written) (length out) h) (take-append_seam written (drop (length written) out))

-- by the definitions, where the table's bytes are those of a load of l
encodes : (image insts' : List ℕ) (is : List Inst) (l : Loaded) (count : ℕ) (written : List ℕ) → insts_of insts' ≡ insts_after (accepts l) is → count ≡ count_of l
    → Writes image is l written → Encodes image insts' count written
encodes image insts' is l count written e n w =
    record {
      asks = λ r h. means_size r (length written) (h ∙ rw (e, n) w.size_is);
      writes = λ out r out' h. (let output_is : out' ≡ written_into written out = h.output_is ∙ rw (e, n) (w.output_is out) in
          record {
            answer_is = means_either r (length written) (leb (length written) (length out)) (h.answers ∙ rw (e, n) (w.answer_is out));
            output_is = output_is;
            front_is = λ l. ap (take (length written)) output_is ∙ front written out l;
          });
    }

-- ---- a load

abbrev machine_in : Reply → Machine
machine_in (refuses n) = fresh_at 0
machine_in (starts m n) = m

abbrev count_in : Reply → ℕ
count_in (refuses n) = n
count_in (starts m n) = n

unstarted : {A : Type 0} (n : ℕ) (m : Machine) (k : ℕ) → refuses n ≡ starts m k → A
unstarted n m k e = let z : ◌≡◌ {A = ℕ} 0 1 = cc in absurd (omega arith)

-- a fresh machine's pointer
fresh_ip : (ip : ℕ) (l : Loaded) → fresh_at ip ≡ fresh l → ip ≡ l.ip
unfolding fresh_at fresh
fresh_ip ip l e = ap (λ (m : Machine). m.ip) e

starts_as : (r : Result Accepted Refusal) (l : Loaded) → loader.means r ≡ reply_of (accepts l) → r ≡ Ok (record { ip = l.ip; count = count_of l })
unfolding loader.means reply_of
starts_as (Err x) l e = unstarted (number_of x) (fresh l) (count_of l) e
starts_as (Ok a) l e =
    let i = fresh_ip a.ip l (ap machine_in e) in
    let n : a.count ≡ count_of l = ap count_in e in
    let z : ◌≡◌ {A = Accepted} (record { ip = a.ip; count = a.count }) (record { ip = l.ip; count = count_of l }) = rw (i, n) in
    ap Ok z

refuses_as : (r : Result Accepted Refusal) (n : ℕ) → loader.means r ≡ reply_of (rejects n) → (x : Refusal) × (r ≡ Err x) × (number_of x ≡ n)
unfolding loader.means reply_of
refuses_as (Err x) n e = (x, refl, ap count_in e)
refuses_as (Ok a) n e = unstarted n (fresh_at a.ip) a.count (sym e)

loads_either : (r : Result Accepted Refusal) (l : Loaded) (n : ℕ) (b : Bool) → loader.means r ≡ reply_of (cond b (accepts l) (rejects n))
    → numbered r ≡ cond b (Ok (record { ip = l.ip; count = count_of l })) (Err n)
loads_either r l n true e = ap numbered (starts_as r l e)
loads_either r l n false e = let p = refuses_as r n e in ap numbered p.1 ∙ ap Err p.2

-- one refusal has the number 1
too_long : (x : Refusal) → number_of x ≡ 1 → x ≡ ImageTooLong
too_long ImageTooLong e = refl
too_long UndefinedByte e = cc
too_long PastEnd e = cc
too_long NameByte e = cc
too_long TooManyInstructions e = cc
too_long TooManyLabels e = cc
too_long NoStart e = cc
too_long Native e = cc
too_long NoRoom e = cc

-- so the number tells the answer
by_number : (r : Result Accepted Refusal) (a : Accepted) (b : Bool) → numbered r ≡ cond b (Ok a) (Err 1) → r ≡ cond b (Ok a) (Err ImageTooLong)
by_number (Ok x) a true e = let z : x ≡ a = cc in ap Ok z
by_number (Ok x) a false e = cc
by_number (Err x) a true e = cc
by_number (Err x) a false e = let z : number_of x ≡ 1 = cc in ap Err (too_long x z)

-- ---- together

module _ (image insts : List ℕ) (l : Loaded) (w : Rewritten image (insts_of insts) l) where
  loads_again : (insts₂ labels₂ : List ℕ) (r : Result Accepted Refusal) (insts₂' labels₂' : List ℕ) → inst_limit ≤ length (insts_of insts₂) → label_records ≤ length (labels_of labels₂)
      → FromBinary w.written insts₂ labels₂ r insts₂' labels₂' → LoadsAgain l l.ip (count_of l) w.written insts₂ labels₂ r insts₂' labels₂'
  loads_again insts₂ labels₂ r insts₂' labels₂' h k f =
      let e : load_of w.written insts₂ labels₂ ≡ loaded_again l w.written = w.loads_again (insts_of insts₂) (labels_of labels₂) h k in
      let insts_are : insts₂' ≡ insts_left (loaded_again l w.written) insts₂ = f.insts_are ∙ ap (λ (x : Load). insts_left x insts₂) e in
      let same : length w.written ≤ image_limit → loaded_again l w.written ≡ accepts l =
      λ s. ap (λ (b : Bool). cond b (accepts l) (rejects 1)) (le-leb (length w.written) image_limit s) in
      record {
        answer_is = by_number r _ (leb (length w.written) image_limit) (loads_either r l 1 (leb (length w.written) image_limit) (f.answers ∙ ap reply_of e));
        insts_are = insts_are;
        labels_are = f.labels_are ∙ ap (λ (x : Load). labels_left x labels₂) e;
        encodes_again = λ s. encodes w.written insts₂' (insts_of insts₂) l (count_of l) w.written
            (ap insts_of (insts_are ∙ ap (λ (x : Load). insts_left x insts₂) (same s)) ∙ insts_left_lem (accepts l) insts₂) refl (w.writes_again s (insts_of insts₂) h);
      }

accepted : (image insts labels : List ℕ) (ip count : ℕ) (insts' : List ℕ) → Bytes image → (x : Load) → load_of image insts labels ≡ x
    → loader.means (Ok (record { ip = ip; count = count })) ≡ reply_of x → insts' ≡ insts_left x insts → CallsRewritten image insts labels ip count insts'
unfolding loader.means reply_of
accepted image insts labels ip count insts' bytes (rejects n) e a i = unstarted n (fresh_at ip) count (sym a)
accepted image insts labels ip count insts' bytes (accepts l) e a i =
    let w = images_are_rewritten image (insts_of insts) (labels_of labels) l bytes e in
    let p = fresh_ip ip l (ap machine_in a) in
    let n : count ≡ count_of l = ap count_in a in
    record {
      loaded = l;
      accepted = e;
      ip_is = p;
      count_is = n;
      rewritten = w;
      encodes = encodes image insts' (insts_of insts) l count w.written (ap insts_of i ∙ insts_left_lem (accepts l) insts) n w.writes;
      loads_again = λ insts₂ labels₂ r insts₂' labels₂' h k f. rw (p, n) (loads_again image insts l w insts₂ labels₂ r insts₂' labels₂' h k f);
    }

pub calls_are_rewritten : CallsAreRewritten
calls_are_rewritten image insts labels ip count insts' labels' bytes f =
    accepted image insts labels ip count insts' bytes (load_of image insts labels) refl f.answers f.insts_are
