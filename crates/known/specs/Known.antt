-- What a run has found out about its instructions.
use Rattle.std.specs.Prelude.{ℕ, ◌*◌, ◌<◌, ◌≤◌, ◌≡◌, Bool, true, ◌&&◌, ◌||◌, List, eqb, leb, length, get_or}
use Rattle.inst.specs.Records.{well_formed}
use Rattle.machine.specs.Lookup.{Program, leads_to, lookup}
use Rattle.tables.specs.Tables.{number_at, insts_of, inst_of}
use Rattle.known.specs.declared.Known.{Known}

-- so many instructions can be known, from the first on; and the key of one that isn't
abbrev pub known_limit : ℕ
known_limit = 4080

abbrev pub unknown : ℕ
unknown = 255

-- the jumps and CALL
abbrev pub looks_up : ℕ → Bool
looks_up op = eqb op 28 || (leb 12 op && leb op 20)

-- record i is below the count and well formed, its first byte is the key, and the lookup of a jump or CALL finds t
pub record KnownAt (p : Program) (xs : List ℕ) (key t i : ℕ) : Type 0 where
  pub below : i < p.count
  pub formed : well_formed p.image (inst_of xs i) ≡ true
  pub typ_is : number_at xs (i * 4) ≡ key
  pub target_is : looks_up key ≡ true → lookup p (inst_of xs i) ≡ leads_to t

-- a program over the table xs
pub record Over (p : Program) (xs : List ℕ) : Type 0 where
  pub table : p.insts ≡ insts_of xs
  pub inside : p.count * 32 ≤ length xs

-- P holds of each known instruction's key, target and index
abbrev pub Entries : (ℕ → ℕ → ℕ → Type 0) → Known → Type 0
Entries P k = (i : ℕ) → i < known_limit → (get_or k.keys i 0 ≡ unknown → ⊥) → P (get_or k.keys i 0) (get_or k.targets i 0) i

abbrev pub AllKnown : Program → List ℕ → Known → Type 0
AllKnown p xs k = Entries (KnownAt p xs) k

-- they are below the count
abbrev pub Listed : ℕ → Known → Type 0
Listed count k = Entries (λ (key t i : ℕ). i < count) k

-- both arrays have their length, by their type
pub record Sized (k : Known) : Type 0 where
  pub keys_long : length k.keys ≡ known_limit
  pub targets_long : length k.targets ≡ known_limit
