-- The effects on height and on the call stack, as document 01's table lists them, apart from the step's definition.
use Rattle.std.specs.Prelude.{ℕ, cond, List, [], ◌∷◌, ◌++◌, eqb, ℤ, pos, neg_ℤ}
use Rattle.machine.specs.Step.{Op, NOP, PUSH, POP, INC, DEC, CMP, SWAP, DUP, BOT, JCC, JMP, CALL, RET, DMP, READ, WRITE, HALT, integer, float, conversion}

-- a step's trap, if any
pub data Outcome : Type 0 where
  untrapped : Outcome
  trapped : ℕ → Outcome

-- what an instruction does to the open calls: CALL +1, RET -1, else 0
pub data Calls : Type 0 where
  opens closes keeps : Calls

unfoldable pub call_gain : Calls → ℤ
call_gain opens = pos 1
call_gain closes = neg_ℤ (pos 1)
call_gain keeps = pos 0

-- the effect on height untrapped; so many cells less with one of these traps, and 0 with others; the effect on the calls
pub record Effects : Type 0 where
  pub gain : ℤ
  pub loss : ℕ
  pub traps : List ℕ
  pub on_calls : Calls

abbrev pub listed : ℤ → ℕ → List ℕ → Calls → Effects
listed g n ts c = record { gain = g; loss = n; traps = ts; on_calls = c }

-- PUSH, DUP, BOT +1; POP, CMP, the eight arithmetic operations -1; WRITE -2; others 0. Trapping: 24, 30, 31 of arithmetic -1;
-- 28, 29, 31 of conversions -1; 25 of READ -1, of WRITE -2; other traps 0
unfoldable pub effects : Op → Effects
effects NOP = listed (pos 0) 0 [] keeps
effects PUSH = listed (pos 1) 0 [] keeps
effects POP = listed (neg_ℤ (pos 1)) 0 [] keeps
effects INC = listed (pos 0) 0 [] keeps
effects DEC = listed (pos 0) 0 [] keeps
effects CMP = listed (neg_ℤ (pos 1)) 0 [] keeps
effects SWAP = listed (pos 0) 0 [] keeps
effects DUP = listed (pos 1) 0 [] keeps
effects BOT = listed (pos 1) 0 [] keeps
effects JCC = listed (pos 0) 0 [] keeps
effects JMP = listed (pos 0) 0 [] keeps
effects CALL = listed (pos 0) 0 [] opens
effects RET = listed (pos 0) 0 [] closes
effects DMP = listed (pos 0) 0 [] keeps
effects READ = listed (pos 0) 1 (25 ∷ []) keeps
effects WRITE = listed (neg_ℤ (pos 2)) 2 (25 ∷ []) keeps
effects HALT = listed (pos 0) 0 [] keeps
effects (integer k) = listed (neg_ℤ (pos 1)) 1 (24 ∷ 30 ∷ 31 ∷ []) keeps
effects (float k) = listed (neg_ℤ (pos 1)) 1 (24 ∷ 30 ∷ 31 ∷ []) keeps
effects (conversion k) = listed (pos 0) 1 (28 ∷ 29 ∷ 31 ∷ []) keeps

-- how many cells less with the trap t
unfoldable pub lost_at : ℕ → List ℕ → ℕ → ℕ
lost_at n [] t = 0
lost_at n (x ∷ xs) t = cond (eqb t x) n (lost_at n xs t)

abbrev pub lost : Effects → ℕ → ℕ
lost e t = lost_at e.loss e.traps t

unfoldable pub effect : Effects → Outcome → ℤ
effect e untrapped = e.gain
effect e (trapped t) = neg_ℤ (pos (lost e t))

-- a list without its last
unfoldable pub drop_last : List ℕ → List ℕ
drop_last [] = []
drop_last (x ∷ []) = []
drop_last (x ∷ y ∷ l) = x ∷ drop_last (y ∷ l)

-- the open calls that a step leaves; or `lacking`, where it is to remove one and none is open
pub data Opened : Type 0 where
  lacking : Opened
  leaves : List ℕ → Opened

-- The open calls after the instruction with the index i. CALL, untrapped or with 27, puts its own index last, but not with 23;
-- RET, untrapped, removes the last, and there has to be one
unfoldable pub open_calls_after : Calls → Outcome → ℕ → List ℕ → Opened
open_calls_after keeps o i l = leaves l
open_calls_after opens untrapped i l = leaves (l ++ (i ∷ []))
open_calls_after opens (trapped t) i l = leaves (cond (eqb t 27) (l ++ (i ∷ [])) l)
open_calls_after closes untrapped i [] = lacking
open_calls_after closes untrapped i (x ∷ l) = leaves (drop_last (x ∷ l))
open_calls_after closes (trapped t) i l = leaves l
