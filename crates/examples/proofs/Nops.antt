-- Number 5: an image of more than 4,096 NOPs is refused with it. By induction, as the reading is too long to compute. Assumes nothing.
use Prim.Native.Nat.{ℕ, zero, suc, ◌+◌, ◌≤◌, ◌<◌}
use mathlib.Core.Path.{◌≡◌, refl, ap, ◌∙◌}
use native.Mathlib.Omega.{arith}
use lib.ListN.{length, replicate, length-replicate, get_or-replicate, length-append}
use borrow.Author.Tests.{lt-ltb, le-ltb, lt-leb, le-leb}
use Rattle.inst.specs.Forms.{form_of, has_none}
use Rattle.inst.specs.Records.{plain}
use Rattle.inst_decode.specs.Decode.{reads, read_operand, from_bytes}
use Rattle.machine.specs.Limits.{inst_limit}
use Rattle.machine.specs.Load.{Scan, stops, begin, scan_one, and_then, scan, rejects, finished, loads}

module _ (n : ℕ) (over : inst_limit < n) where
  nop : (k : ℕ) → k < n → from_bytes (replicate n 0) k ≡ reads (plain 0 0) 1
  unfolding from_bytes read_operand form_of has_none
  nop k h = simp (length-replicate {A = ℕ} n 0, lt-leb n k h, get_or-replicate {A = ℕ} n k 0 0 h)

  -- with room for `left` more
  too_many : (fuel left : ℕ) (s : Scan) → length s.insts ≡ s.at → s.at + left ≡ inst_limit → left < fuel → scan fuel (replicate n 0) s ≡ stops 5
  unfolding scan scan_one and_then
  too_many zero left s e h l = absurd (omega arith)
  too_many (suc fuel) zero s e h l =
      simp (length-replicate {A = ℕ} n 0, lt-ltb s.at n (omega arith), nop s.at (omega arith), le-leb inst_limit (length s.insts) (omega arith))
  too_many (suc fuel) (suc left) s e h l =
      simp (length-replicate {A = ℕ} n 0, lt-ltb s.at n (omega arith), nop s.at (omega arith), lt-leb inst_limit (length s.insts) (omega arith))
      (too_many fuel left _ (length-append s.insts _ ∙ ap (λ (k : ℕ). k + 1) e) (omega arith) (omega arith))

  pub refused : n ≤ 16384 → loads (replicate n 0) ≡ rejects 5
  unfolding loads finished
  refused h =
      let r = too_many n 4096 begin refl refl over in
      simp (length-replicate {A = ℕ} n 0, le-ltb 16384 n h, r)
