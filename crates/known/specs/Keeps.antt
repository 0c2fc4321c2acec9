-- What is kept of an instruction.
use Rattle.step_core.specs.Parts.{LookedUp}
use Rattle.std.specs.Prelude.{ℕ, ◌*◌, ◌<◌, ◌≡◌, Bool, true, cond, not, ◌&&◌, ◌⊎◌, List, Option, Some, None, Ok, Err, ltb, length, get_or, set}
use Rattle.inst.specs.Records.{well_formed}
use Rattle.known.specs.Known.{known_limit, looks_up}
use Rattle.tables.specs.Tables.{number_at, inst_of}
use Rattle.known.specs.declared.Known.{Known}

-- the first byte of the instruction at an index, if there is a slot for it
abbrev pub with_key : Known → Bool → (i op : ℕ) → Known
with_key k b i op = record { keys = cond b (set k.keys i op) k.keys; targets = k.targets }

pub record Keeps (k : Known) (i op : ℕ) (k' : Known) : Type 0 where
  pub is : k' ≡ with_key k (ltb i known_limit) i op

-- and the target that was found, if a lookup was made and it fits 16 bits
abbrev pub KeepsTarget : Known → ℕ → ℕ → Option LookedUp → Known → Type 0
KeepsTarget k i op None k' = k' ≡ k
KeepsTarget k i op (Some (Err e)) k' = k' ≡ k
KeepsTarget k i op (Some (Ok t)) k' =
    let b = ltb i known_limit && ltb t 65536 in
    k' ≡ record { keys = cond b (set k.keys i op) k.keys; targets = cond b (set k.targets i t) k.targets }

pub record KeepsJump (k : Known) (i op : ℕ) (found : Option LookedUp) (k' : Known) : Type 0 where
  pub is : KeepsTarget k i op found k'

-- an instruction of the table xs that needs no lookup, with a well-formed record
unfoldable pub is_plain_at : List ℕ → List ℕ → ℕ → Bool
is_plain_at image xs i = not (looks_up (number_at xs (i * 4))) && well_formed image (inst_of xs i)

pub record KeepsPlain (image xs : List ℕ) (k : Known) (i : ℕ) (k' : Known) : Type 0 where
  pub is : k' ≡ with_key k (is_plain_at image xs i && ltb i known_limit) i (number_at xs (i * 4))

-- each key is as before, or the first byte of such an instruction below the count
pub record Learnt (image xs : List ℕ) (count key i : ℕ) : Type 0 where
  pub below : i < count
  pub plain : is_plain_at image xs i ≡ true
  pub typ_is : number_at xs (i * 4) ≡ key

pub record Learns (image xs : List ℕ) (count : ℕ) (k k' : Known) : Type 0 where
  pub long : length k'.keys ≡ length k.keys
  pub same : k'.targets ≡ k.targets
  pub each : (i : ℕ) → (get_or k'.keys i 0 ≡ get_or k.keys i 0) ⊎ Learnt image xs count (get_or k'.keys i 0) i
