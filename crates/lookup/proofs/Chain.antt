-- The walk along the label chain record by record. Assumes nothing.
use Prim.Native.Nat.{ℕ, zero, suc, ◌≤◌, ◌<◌, ◌-◌}
use mathlib.Core.Path.{◌≡◌, refl, ◌∙◌, sym, ap}
use mathlib.Core.Bool.{Bool, true, false, cond, ◌&&◌}
use mathlib.Core.List.{List, [], ◌∷◌}
use native.Mathlib.Omega.{arith}
use lib.Dec.{eqb, ltb}
use lib.ListN.{length, get_or}
use borrow.Author.Tests.{eq-eqb, ne_eqb, lt-ltb, le-ltb, eqb-true}
use Rattle.inst.specs.Records.{name_in, same}
use Rattle.machine.specs.declared.Label.{Label}
use Rattle.machine.specs.Load.{name_of, head}
use Rattle.machine.specs.Lookup.{Program, ill_chain, no_label, leads_to, label_at, in_program, walk, lookup_from}
use Rattle.std.specs.Prelude.{Ok, Err}
use Rattle.step_core.specs.declared.LookupError.TheVariants.{NoLabel}
use Rattle.step_core.specs.Parts.{found_of, LookedUp}

-- a label's target, if it is in the program
program_by : (b : Bool) (t : ℕ) → found_of (cond b (Ok t) (Err NoLabel)) ≡ cond b (leads_to t) no_label
program_by true t = refl
program_by false t = refl

pub program_found : (t count : ℕ) {r : LookedUp} → r ≡ cond (ltb t count) (Ok t) (Err NoLabel) → found_of r ≡ cond (ltb t count) (leads_to t) no_label
program_found t count e = ap found_of e ∙ program_by (ltb t count) t

-- the walk goes on to the index i, which must be below `bound`
pub record GoesOn (p : Program) (name : List ℕ) (bound i : ℕ) : Type 0 where
  pub fuel : ℕ
  pub enough : bound ≤ fuel
  pub some : 0 < bound
  pub inside : bound ≤ length p.labels
  pub is : walk fuel p name bound i ≡ lookup_from p name p.labels

-- from one record on
module _ (p : Program) (name : List ℕ) (bound i : ℕ) (g : GoesOn p name bound i) where
  turn : (fuel : ℕ) → bound ≤ fuel → 0 < bound →
      walk fuel p name bound i ≡
      cond (eqb i 0) no_label
      (cond (ltb i bound && name_in p.image (label_at p i).start (label_at p i).len)
      (cond (same name (name_of p.image (label_at p i))) (in_program p (label_at p i).target) (walk (fuel - 1) p name i (label_at p i).next))
      ill_chain)
  unfolding walk
  turn zero b o = absurd (omega arith)
  turn (suc f) b o = let e : suc f - 1 ≡ f = omega arith in rw e refl

  here :
      lookup_from p name p.labels ≡
      cond (eqb i 0) no_label
      (cond (ltb i bound && name_in p.image (label_at p i).start (label_at p i).len)
      (cond (same name (name_of p.image (label_at p i))) (in_program p (label_at p i).target) (walk (g.fuel - 1) p name i (label_at p i).next))
      ill_chain)
  here = sym g.is ∙ turn g.fuel g.enough g.some

  pub ends : i ≡ 0 → lookup_from p name p.labels ≡ no_label
  ends z = here ∙ simp (eq-eqb _ _ z)

  module _ (z : i ≡ 0 → ⊥) where
    pub high : bound ≤ i → lookup_from p name p.labels ≡ ill_chain
    high h = here ∙ simp (ne_eqb _ _ z, le-ltb _ _ h)

    module _ (h : i < bound) (l : Label) (e : label_at p i ≡ l) where
      pub out : name_in p.image l.start l.len ≡ false → lookup_from p name p.labels ≡ ill_chain
      out n = here ∙ simp (ne_eqb _ _ z, lt-ltb _ _ h, e, n)

      module _ (n : name_in p.image l.start l.len ≡ true) where
        pub finds_it : same name (name_of p.image l) ≡ true → lookup_from p name p.labels ≡ in_program p l.target
        finds_it m = here ∙ simp (ne_eqb _ _ z, lt-ltb _ _ h, e, n, m)

        pub on : same name (name_of p.image l) ≡ false → GoesOn p name i l.next
        on m =
            record {
              fuel = g.fuel - 1;
              enough = omega (arith, g.enough);
              some = omega (arith, z);
              inside = omega (arith, g.inside);
              is = sym (here ∙ simp (ne_eqb _ _ z, lt-ltb _ _ h, e, n, m));
            }

-- not all three
none : (a b c : Bool) → (a ≡ true → b ≡ true → c ≡ true → ⊥) → (a && b && c) ≡ false
none true true true n = absurd (n refl refl refl)
none true true false n = refl
none true false c n = refl
none false b c n = refl

-- from the head on
module _ (p : Program) (name : List ℕ) where
  pub headless : length p.labels ≡ 0 → lookup_from p name p.labels ≡ ill_chain
  unfolding lookup_from
  headless = by p.labels
    where
      by : (ls : List Label) → length ls ≡ 0 → lookup_from p name ls ≡ ill_chain
      by [] e = refl
      by (h ∷ ls) e = absurd (omega arith)

  from_head : (l : Label) (b : Bool) (ls : List Label) → get_or ls 0 (head 0) ≡ l → 0 < length ls → (eqb l.start 0 && eqb l.len 0 && eqb l.target 0) ≡ b →
      lookup_from p name ls ≡ cond b (walk (length p.labels) p name (length p.labels) l.next) ill_chain
  unfolding lookup_from
  from_head l b [] e h t = absurd (omega arith)
  from_head l b (x ∷ ls) e h t =
      let q : (eqb x.start 0 && eqb x.len 0 && eqb x.target 0) ≡ b = rw e t in
      rw q (ap (λ (y : Label). cond b (walk (length p.labels) p name (length p.labels) y.next) ill_chain) e)

  -- the head l
  module _ (some : 0 < length p.labels) (l : Label) (e : label_at p 0 ≡ l) where
    pub head_ill : (l.start ≡ 0 → l.len ≡ 0 → l.target ≡ 0 → ⊥) → lookup_from p name p.labels ≡ ill_chain
    head_ill n = from_head l false p.labels e some (none (eqb l.start 0) (eqb l.len 0) (eqb l.target 0) (λ a b c. n (eqb-true _ _ a) (eqb-true _ _ b) (eqb-true _ _ c)))

    pub head_on : l.start ≡ 0 → l.len ≡ 0 → l.target ≡ 0 → GoesOn p name (length p.labels) l.next
    head_on a b c =
        record {
          fuel = length p.labels;
          enough = omega arith;
          some = some;
          inside = omega arith;
          is = sym (from_head l true p.labels e some (simp (eq-eqb _ _ a, eq-eqb _ _ b, eq-eqb _ _ c)));
        }
