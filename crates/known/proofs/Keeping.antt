-- What is kept of an instruction stays right. Assumes nothing.
use Prim.Native.Nat.{ℕ, ◌*◌, ◌<◌, ◌≤◌}
use mathlib.Core.Path.{◌≡◌, refl, ◌∙◌, sym}
use mathlib.Core.Bool.{Bool, true, false, cond, not, ◌&&◌}
use mathlib.Core.Logic.{◌⊎◌, inl, inr, ⊎_elim}
use mathlib.Core.List.{List}
use lib.Dec.{eqb, ltb}
use lib.ListN.{length, get_or, set, length-set}
use lib.Seq.{get_or-set_same, get_or-set_other}
use borrow.Author.Tests.{eqb-true, eqb-false, ltb-true, le-ltb}
use Rattle.step_core.specs.Parts.{LookedUp}
use Rattle.inst.proofs.Facts.{typ_byte}
use Rattle.inst.proofs.Laws.{and_left, and_right}
use Rattle.inst.specs.Records.{well_formed}
use Rattle.std.specs.Prelude.{Option, Some, None, IfSome, Ok, Err, IfOk}
use Rattle.known.specs.Known.{known_limit, unknown, looks_up, Entries, Sized}
use Rattle.known.specs.Keeps.{KeepsTarget, KeepsJump, with_key, is_plain_at, KeepsPlain, Learnt, Learns}
use Rattle.tables.specs.Tables.{number_at, inst_of}
use Rattle.known.specs.declared.Known.{Known}

module _ (P : ℕ → ℕ → ℕ → Type 0) (k : Known) (sized : Sized k) (entries : Entries P k) (at op t : ℕ) (h : P op t at) where
  -- a key with its target
  both : at < known_limit → (i : ℕ) (b : Bool) → eqb i at ≡ b → i < known_limit → (get_or (set k.keys at op) i 0 ≡ unknown → ⊥) →
      P (get_or (set k.keys at op) i 0) (get_or (set k.targets at t) i 0) i
  both l₀ i true q l u =
      let e = eqb-true i at q in
      let x : at < length k.keys = rw sized.keys_long l₀ in
      let y : at < length k.targets = rw sized.targets_long l₀ in
      rw e (rw (get_or-set_same k.keys at op 0 x, get_or-set_same k.targets at t 0 y) h)
  both l₀ i false q l u =
      let o = get_or-set_other k.keys at i op 0 (eqb-false i at q) in
      rw (o, get_or-set_other k.targets at i t 0 (eqb-false i at q)) (entries i l (λ w. u (o ∙ w)))

  both_if : (b : Bool) → (ltb at known_limit && ltb t 65536) ≡ b →
      Entries P (record { keys = cond b (set k.keys at op) k.keys; targets = cond b (set k.targets at t) k.targets })
  both_if true e i l u = both (ltb-true at known_limit (and_left (ltb at known_limit) _ e)) i (eqb i at) refl l u
  both_if false e i l u = entries i l u

-- what is kept of a jump, by what was found
module _ {k : Known} {at op : ℕ} where
  pub is_target : {asked : Option LookedUp} {found : LookedUp} {t : ℕ} {k' : Known} → asked ≡ Some found → found ≡ Ok t → KeepsTarget k at op (Some (Ok t)) k' → KeepsJump k at op asked k'
  is_target a e q = rw (a, e) (record { is = q })

  pub no_slot : (asked : Option LookedUp) → known_limit ≤ at → KeepsJump k at op asked k
  no_slot None h = record { is = refl }
  no_slot (Some (Err e)) h = record { is = refl }
  no_slot (Some (Ok t)) h = record { is = simp (le-ltb _ _ h) }

  pub keeps_jump : Sized k → (asked : Option LookedUp) {k' : Known} → KeepsJump k at op asked k' → (P : ℕ → ℕ → ℕ → Type 0) → Entries P k →
      IfSome asked (λ (found : LookedUp). IfOk found (λ (t : ℕ). P op t at)) → Entries P k'
  keeps_jump sized None q P entries h = rw q.is entries
  keeps_jump sized (Some (Err e)) q P entries h = rw q.is entries
  keeps_jump sized (Some (Ok t)) q P entries h = rw q.is (both_if P k sized entries at op t h (ltb at known_limit && ltb t 65536) refl)

-- what is plain
module _ (image xs : List ℕ) (i : ℕ) where
  pub formed_byte : well_formed image (inst_of xs i) ≡ true → number_at xs (i * 4) ≤ 255
  formed_byte w = typ_byte image (inst_of xs i) w

  pub plain_is : (b : Bool) → looks_up (number_at xs (i * 4)) ≡ b → is_plain_at image xs i ≡ (not b && well_formed image (inst_of xs i))
  unfolding is_plain_at
  plain_is b e = rw e refl

  module _ (h : is_plain_at image xs i ≡ true) where
    pub plain_formed : well_formed image (inst_of xs i) ≡ true
    unfolding is_plain_at
    plain_formed = and_right (not (looks_up (number_at xs (i * 4)))) _ h

    no_lookup : (b : Bool) → not b ≡ true → b ≡ false
    no_lookup true e = sym e
    no_lookup false e = refl

    pub plain_no_lookup : looks_up (number_at xs (i * 4)) ≡ false
    unfolding is_plain_at
    plain_no_lookup = no_lookup (looks_up (number_at xs (i * 4))) (and_left (not (looks_up (number_at xs (i * 4)))) _ h)

-- keys that are learnt one after another
module _ {image xs : List ℕ} {count : ℕ} {k₀ : Known} where
  pub learns_none : Learns image xs count k₀ k₀
  learns_none = record { long = refl; same = refl; each = λ i. inl refl }

  module _ {k : Known} (long₀ : length k₀.keys ≡ known_limit) (q : Learns image xs count k₀ k) (at : ℕ) (below : at < count) where
    abbrev op : ℕ
    op = number_at xs (at * 4)

    each_set : at < known_limit → is_plain_at image xs at ≡ true → (i : ℕ) (b : Bool) → eqb i at ≡ b →
        (get_or (set k.keys at op) i 0 ≡ get_or k₀.keys i 0) ⊎ Learnt image xs count (get_or (set k.keys at op) i 0) i
    each_set l plain i true e =
        let here : at < length k.keys = rw (q.long ∙ long₀) l in
        rw (eqb-true i at e) (rw (get_or-set_same k.keys at op 0 here) (inr (record { below = below; plain = plain; typ_is = refl })))
    each_set l plain i false e = rw (get_or-set_other k.keys at i op 0 (eqb-false i at e)) (q.each i)

    learns_if : (b : Bool) → (is_plain_at image xs at && ltb at known_limit) ≡ b → Learns image xs count k₀ (with_key k b at op)
    learns_if true e =
        record {
          long = length-set k.keys at op ∙ q.long;
          same = q.same;
          each = λ i. each_set (ltb-true at known_limit (and_right (is_plain_at image xs at) _ e)) (and_left (is_plain_at image xs at) _ e) i (eqb i at) refl;
        }
    learns_if false e = q

    pub learns_more : {k' : Known} → KeepsPlain image xs k at k' → Learns image xs count k₀ k'
    learns_more h = rw h.is (learns_if (is_plain_at image xs at && ltb at known_limit) refl)

  pub learns : {k' : Known} → Learns image xs count k₀ k' → (P : ℕ → ℕ → ℕ → Type 0) → Entries P k₀ → ((i t : ℕ) → Learnt image xs count (get_or k'.keys i 0) i → P (number_at xs (i * 4)) t i) →
      Entries P k'
  learns {k'} q P entries h i l u =
      rw q.same (⊎_elim (λ e. rw e (entries i l (λ w. u (e ∙ w)))) (λ x. rw (← x.typ_is) (h i (get_or k₀.targets i 0) x)) (q.each i))
