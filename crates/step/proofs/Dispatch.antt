-- The instruction of a first byte. Assumes nothing.
use Prim.Native.Nat.{ℕ, zero, suc, ◌+◌, ◌-◌, ◌<◌, ◌≤◌}
use mathlib.Core.Path.{◌≡◌, refl, sym}
use mathlib.Core.Bool.{Bool, true, false}
use mathlib.Core.Logic.{◌⊎◌, inl, inr}
use native.Mathlib.Omega.{arith}
use lib.Dec.{eqb, leb}
use borrow.Author.Tests.{ne_eqb, le-leb, leb-true, leb-false, eqb-true, eqb-false}
use Rattle.std.proofs.lemmas.List.{get_or_past}
use Rattle.flag.specs.declared.Flag.{Flag}
use Rattle.flag.specs.declared.Flag.TheVariants.{E, L, LE, G, GE, NE, Z, NZ}
use Rattle.flag.specs.Jumps.{jump_of}
use Rattle.inst.proofs.Laws.{never, and_left, and_right}
use Rattle.machine.specs.Step.{NOP, JCC, DMP, READ, WRITE, integer, float, conversion, numbered, op_of}
use Rattle.known.specs.Known.{looks_up}
use Rattle.step_integer.specs.Kinds.{integer_of}
use Rattle.step_float.specs.Kinds.{float_of}
use Rattle.step_convert.specs.Kinds.{conversion_of}

-- what doesn't look up is outside the jumps, and isn't CALL
pub no_jump : (op : ℕ) → looks_up op ≡ false → (op ≡ 28 → ⊥) × (12 ≤ op → 20 < op)
no_jump op l =
    let no_call : op ≡ 28 → ⊥ = λ e. never (sym (rw e at l)) in
    (no_call, λ h. leb-false op 20 (rw (ne_eqb op 28 no_call, le-leb 12 op h) at l))

-- a first byte that is none of the table's but for NOP's
pub nop_at : (op : ℕ) → ((op ≡ 0 → ⊥) → (op ≡ 21 → ⊥) → (op ≡ 30 → ⊥) → (op ≡ 37 → ⊥) → 46 < op) → (op ≡ 69 → ⊥) → op_of op ≡ NOP
unfolding op_of
nop_at op h n = from (eqb op 0) (eqb op 21) (eqb op 30) (eqb op 37) refl refl refl refl
  where
    from : (a b c d : Bool) → eqb op 0 ≡ a → eqb op 21 ≡ b → eqb op 30 ≡ c → eqb op 37 ≡ d → op_of op ≡ NOP
    from true b c d p q r s = rw (eqb-true op 0 p) refl
    from false true c d p q r s = rw (eqb-true op 21 q) refl
    from false false true d p q r s = rw (eqb-true op 30 r) refl
    from false false false true p q r s = rw (eqb-true op 37 s) refl
    from false false false false p q r s =
        rw (ne_eqb op 69 n) (get_or_past numbered op NOP (h (eqb-false op 0 p) (eqb-false op 21 q) (eqb-false op 30 r) (eqb-false op 37 s)))

-- what looks up is CALL, a conditional jump or JMP
pub jmp_is : (op : ℕ) → looks_up op ≡ true → (op ≡ 28 → ⊥) → (12 ≤ op → 19 < op) → op ≡ 20
jmp_is op l b j =
    let h = rw (ne_eqb op 28 b) at l in
    omega (arith, j (leb-true 12 op (and_left (leb 12 op) (leb op 20) h)), leb-true op 20 (and_right (leb 12 op) (leb op 20) h))

-- a flag's jump
pub jcc_at : (f : Flag) → op_of (jump_of f) ≡ JCC
unfolding op_of
jcc_at E = refl
jcc_at L = refl
jcc_at LE = refl
jcc_at G = refl
jcc_at GE = refl
jcc_at NE = refl
jcc_at Z = refl
jcc_at NZ = refl

pub dump_at : (op : ℕ) → (op ≡ 27) ⊎ (op ≡ 46) → op_of op ≡ DMP
unfolding op_of
dump_at op (inl e) = rw e refl
dump_at op (inr e) = rw e refl

pub read_at : (op : ℕ) → (op ≡ 38) ⊎ (op ≡ 40) ⊎ (op ≡ 42) ⊎ (op ≡ 44) → op_of op ≡ READ
unfolding op_of
read_at op (inl e) = rw e refl
read_at op (inr (inl e)) = rw e refl
read_at op (inr (inr (inl e))) = rw e refl
read_at op (inr (inr (inr e))) = rw e refl

pub write_at : (op : ℕ) → (op ≡ 39) ⊎ (op ≡ 41) ⊎ (op ≡ 43) ⊎ (op ≡ 45) → op_of op ≡ WRITE
unfolding op_of
write_at op (inl e) = rw e refl
write_at op (inr (inl e)) = rw e refl
write_at op (inr (inr (inl e))) = rw e refl
write_at op (inr (inr (inr e))) = rw e refl

-- P of n numbers from i on, and of each of them
abbrev Each : (ℕ → Type 0) → ℕ → ℕ → Type 0
Each P i zero = Unit
Each P i (suc n) = P i × Each P (suc i) n

each : (P : ℕ → Type 0) (n i k op : ℕ) → Each P i n → k < n → op ≡ i + k → P op
each P zero i k op h l e = absurd (omega arith)
each P (suc n) i zero op h l e = let q : op ≡ i = omega arith in rw q h.0
each P (suc n) i (suc k) op h l e = each P n (suc i) k op h.1 (omega arith) (omega arith)

-- the first bytes of the integer and float operations and of the conversions, as their crates number them
pub integer_at : (op : ℕ) → 5 ≤ op → op ≤ 8 → op_of op ≡ integer (integer_of op)
unfolding op_of
integer_at op a b = each (λ (x : ℕ). op_of x ≡ integer (integer_of x)) 4 5 (op - 5) op (refl, (refl, (refl, (refl, tt)))) (omega arith) (omega arith)

pub float_at : (op : ℕ) → 23 ≤ op → op ≤ 26 → op_of op ≡ float (float_of op)
unfolding op_of
float_at op a b = each (λ (x : ℕ). op_of x ≡ float (float_of x)) 4 23 (op - 23) op (refl, (refl, (refl, (refl, tt)))) (omega arith) (omega arith)

pub conversion_at : (op : ℕ) → 31 ≤ op → op ≤ 36 → op_of op ≡ conversion (conversion_of op)
unfolding op_of
conversion_at op a b = each (λ (x : ℕ). op_of x ≡ conversion (conversion_of x)) 6 31 (op - 31) op (refl, (refl, (refl, (refl, (refl, (refl, tt)))))) (omega arith) (omega arith)
