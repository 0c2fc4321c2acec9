-- What holds while the instructions of an accepted image are filled in. Assumes nothing.
use Prim.Native.Nat.{ℕ, ◌+◌, ◌*◌, ◌<◌, ◌≤◌}
use mathlib.Core.Path.{◌≡◌, refl, ap, sym, ◌∙◌, subst}
use mathlib.Core.Bool.{cond}
use mathlib.Core.List.{List, [], ◌∷◌, ◌++◌}
use native.Mathlib.Omega.{arith}
use lib.Dec.{ltb, leb}
use lib.ListN.{length, length-append}
use Rattle.std.specs.Prelude.{Result, Ok, Err, IsOk}
use lib.Seq.{sets}
use borrow.Author.Tests.{leb-false}
use Rattle.inst.specs.declared.Inst.{Inst}
use Rattle.inst.proofs.Laws.{by_test}
use Rattle.inst_decode.specs.declared.DecodeError.{DecodeError}
use Rattle.inst_decode.specs.declared.Decoded.{Decoded}
use Rattle.inst_decode.specs.Decode.{refused, reads, number_of, means, from_bytes}
use Rattle.inst_decode.proofs.Facts.{read_in_lem}
use Rattle.machine.specs.Limits.{inst_limit, label_records}
use Rattle.machine.specs.Load.{is_label, halt, Scan, Scanned, stops, goes, begin, scan_one, closed, Loaded, accepts, loads}
use Rattle.tables.specs.Tables.{numbers_of, bytes_of, inst_numbers, inst_bytes}
use Rattle.loader.specs.Loading.{insts_left, Accepts}
use Rattle.loader.proofs.Rests.{Rest, rest_next, rest_stop, rest_end}
use Rattle.machine.proofs.Loads.{never_both, finished_is}
use Rattle.loader.proofs.Loads.{accepted_rest}
use Rattle.loader.proofs.Stores.{inst_more, halt_more}

-- where the scan s goes on with the instruction i of this size: the bytes and the instructions that it has then
unfoldable Took : Scan → Inst → ℕ → Scanned → Type 0
Took s i size (stops n) = Unit {0}
Took s i size (goes t) = (t.at ≡ s.at + size) × (t.insts ≡ s.insts ++ (i ∷ [])) × (length s.insts < inst_limit)

took : (s : Scan) (i : Inst) (size : ℕ) → Took s i size (scan_one s (reads i size))
unfolding Took scan_one
took s i size =
    by_test (Took s i size) (leb inst_limit (length s.insts)) _ _ (λ _. tt)
    (λ k. by_test (Took s i size) (is_label i) _ _
    (λ _. by_test (Took s i size) (leb label_records (length s.labels)) _ _ (λ _. tt) (λ _. (refl, refl, leb-false _ _ k)))
    (λ _. (refl, refl, leb-false _ _ k)))

-- read up to `to`, which is at this byte and has n instructions, and all of it stored into xs
pub record Reached (image xs : List ℕ) (l : Loaded) (at n : ℕ) (insts : List ℕ) : Type 0 where
  pub to : Scan
  pub at_is : at ≡ to.at
  pub count_is : n ≡ length to.insts
  pub rest : Rest image to (accepts l)
  pub has_insts : insts ≡ sets xs 0 (inst_bytes to.insts)

-- the instruction i of this size comes next
record Further (image : List ℕ) (l : Loaded) (s : Scan) (i : Inst) (size : ℕ) : Type 0 where
  to : Scan
  at_is : to.at ≡ s.at + size
  insts_are : to.insts ≡ s.insts ++ (i ∷ [])
  below : length s.insts < inst_limit
  rest : Rest image to (accepts l)

module _ (image xs : List ℕ) where
  -- whatever the image loads to
  abbrev pub Filling : ℕ → ℕ → List ℕ → Type 0
  Filling at n insts = (l : Loaded) → loads image ≡ accepts l → Reached image xs l at n insts

  pub filling_begins : Filling 0 0 xs
  unfolding numbers_of bytes_of
  filling_begins l a = record { to = begin; at_is = refl; count_is = refl; rest = accepted_rest image l a; has_insts = refl }

  module _ (at n : ℕ) (insts : List ℕ) (f : Filling at n insts) where
    -- at the image's end
    pub filling_ends : length image ≤ at → (count : ℕ) → Accepts image count → (insts' : List ℕ)
        → insts' ≡ cond (ltb n count) (sets insts (n * 32) (bytes_of (inst_numbers halt))) insts → insts' ≡ insts_left (loads image) xs
    unfolding insts_left
    filling_ends h count a insts' t =
        let l = a.loaded in
        let r = f l a.is in
        let k = finished_is image l r.to (rest_end image r.to (accepts l) (rw r.at_is at h) r.rest) in
        let m : count ≡ length (closed r.to.insts) = a.count_is ∙ ap length k.insts_are in
        rw a.is
        (t
        ∙ ap (λ (m : ℕ). cond (ltb n m) (sets insts (n * 32) (bytes_of (inst_numbers halt))) insts) m
        ∙ halt_more xs insts r.to.insts n r.count_is r.has_insts
        ∙ ap (λ (is : List Inst). sets xs 0 (inst_bytes is)) (sym k.insts_are))

    module _ (h : at < length image) where
      -- a refusal is never met
      pub filling_never : {A : Type 0} (count : ℕ) → Accepts image count → (m : ℕ) → from_bytes image at ≡ refused m → A
      unfolding scan_one
      filling_never count a m e =
          let l = a.loaded in
          let r = f l a.is in
          let q : scan_one r.to (from_bytes image r.to.at) ≡ stops m = ap (λ (p : ℕ). scan_one r.to (from_bytes image p)) (sym r.at_is) ∙ ap (scan_one r.to) e in
          never_both m l (rest_stop image r.to (accepts l) (rw r.at_is at h) m r.rest q)

      pub filling_ok : (count : ℕ) → Accepts image count → (r : Result Decoded DecodeError) → means r ≡ from_bytes image at → IsOk r
      filling_ok count a (Ok d) e = refl
      filling_ok count a (Err x) e = filling_never count a (number_of x) (sym e)

      module _ (i : Inst) (size : ℕ) (e : from_bytes image at ≡ reads i size) where
        by_scan : (l : Loaded) (r : Reached image xs l at n insts) (x : Scanned) → scan_one r.to (from_bytes image r.to.at) ≡ x → Took r.to i size x → Further image l r.to i size
        unfolding Took
        by_scan l r (stops m) w k = never_both m l (rest_stop image r.to (accepts l) (rw r.at_is at h) m r.rest w)
        by_scan l r (goes t) w k =
            let m = (read_in_lem image at i size e).moves in
            record { to = t; at_is = k.0; insts_are = k.1; below = k.2; rest = rest_next image r.to (accepts l) (rw r.at_is at h) t r.rest w (omega (arith, m, k.0)) }

        further : (l : Loaded) (r : Reached image xs l at n insts) → Further image l r.to i size
        further l r =
            let q : from_bytes image r.to.at ≡ reads i size = ap (from_bytes image) (sym r.at_is) ∙ e in
            by_scan l r _ refl (subst (λ a. Took r.to i size (scan_one r.to a)) (sym q) (took r.to i size))

        -- its record has room
        pub filling_room : (count : ℕ) → Accepts image count → n < inst_limit
        filling_room count a = let r = f a.loaded a.is in let k = (further a.loaded r).below in omega (arith, k, r.count_is)

        -- an instruction more
        pub filling_next : (insts' : List ℕ) → insts' ≡ sets insts (n * 32) (bytes_of (inst_numbers i)) → Filling (at + size) (n + 1) insts'
        filling_next insts' t l a =
            let r = f l a in
            let k = further l r in
            let more = length-append r.to.insts (i ∷ []) in
            record {
              to = k.to;
              at_is = ap (λ (p : ℕ). p + size) r.at_is ∙ sym k.at_is;
              count_is = omega (arith, r.count_is, more, ap length k.insts_are);
              rest = k.rest;
              has_insts = t ∙ inst_more xs insts r.to.insts i n r.count_is r.has_insts ∙ ap (λ is. sets xs 0 (inst_bytes is)) (sym k.insts_are);
            }
