-- A load over label records that answers 0, by what it loaded. Assumes nothing.
use Prim.Native.Nat.{ℕ}
use mathlib.Core.Path.{◌≡◌, ap, sym, ◌∙◌}
use mathlib.Core.List.{List}
use Rattle.machine.specs.declared.Label.{Label}
use Rattle.machine.specs.Load.{fresh, count_of, insts_after, labels_after, Loaded, accepts}
use Rattle.tables.specs.Tables.{insts_of}
use Rattle.loader.specs.Loading.{fresh_at}
use Rattle.loader.proofs.Left.{insts_left_lem}
use Rattle.label_loader.specs.Loading.{LoadCall, load_of, loaded_by, load_call}
use Rattle.label_loader.proofs.Accepted.{load_accepted}

-- what a load over label records that answers 0 left, by what it loaded
pub record Loads (image insts : List ℕ) (labels : List Label) (r : LoadCall) : Type 0 where
  pub loaded : Loaded
  pub accepted : load_of image insts labels ≡ accepts loaded
  pub machine_is : fresh_at r.ip ≡ fresh loaded
  pub count_is : r.count ≡ count_of loaded
  pub insts_are : insts_of r.insts ≡ insts_after (accepts loaded) (insts_of insts)
  pub labels_are : r.labels ≡ labels_after (accepts loaded) labels

pub load_labels : (image insts : List ℕ) (labels : List Label) (r : LoadCall) → load_call image insts labels ≡ r → r.number ≡ 0 → Loads image insts labels r
unfolding loaded_by fresh_at fresh
load_labels image insts labels r e z =
    let x = load_accepted image insts labels r e z in
    let l = x.0 in
    let q = x.2 in
    let i : r.ip ≡ l.ip = sym (ap (λ (c : LoadCall). c.ip) q) in
    record {
      loaded = l;
      accepted = x.1;
      machine_is = ap fresh_at i;
      count_is = sym (ap (λ (c : LoadCall). c.count) q);
      insts_are = ap insts_of (sym (ap (λ (c : LoadCall). c.insts) q)) ∙ insts_left_lem (accepts l) insts;
      labels_are = sym (ap (λ (c : LoadCall). c.labels) q);
    }
