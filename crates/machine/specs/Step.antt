-- One step (execute_instruction), as document 01 has it: each instruction over one machine record.
use Rattle.std.specs.Prelude.{ℕ, ◌+◌, ◌%◌, Bool, true, false, cond, not, ◌&&◌, ◌||◌, List, [], ◌∷◌, eqb, ltb, leb, ℤ, pos, negsuc, nat_abs, length, get_or}
use Rattle.binary64.specs.Binary64.{sum_bits, difference_bits, product_bits, quotient_bits, to_i64, to_u64, of_whole, below_zero}
use Rattle.nan.specs.declared.CellType.{CellType}
use Rattle.nan.specs.declared.CellType.TheVariants.{F64, I64, U64, Ptr, Unknown}
use Rattle.nan.specs.Cells.{type_of, value, as_u64, from_i64, from_u64}
use Rattle.integer.specs.Integers.{inc, dec, iadd, isub, imul, idiv}
use Rattle.flag.specs.Flags.{cmp, is_set}
use Rattle.inst.specs.declared.Inst.{Inst}
use Rattle.inst.specs.Records.{well_formed}
use Rattle.machine.specs.declared.Machine.{Machine}
use Rattle.machine.specs.Limits.{stack_limit, call_limit, memory_size}
use Rattle.machine.specs.Load.{halt}
use Rattle.machine.specs.Lookup.{Program, Found, ill_chain, no_label, leads_to, lookup}
use Rattle.machine.specs.Change.{height_of_calls, moved, stopped, onward, with_flags, cell_at, top, bottom, pushed, popped_by, popped, replaced, swapped, stacked, returned, written}

-- What a step comes to: success, with the machine that it leaves; a dump's success, with the cell too; a trap by its number, with the
-- machine that it leaves; or 34, which leaves no machine as no step is taken.
pub data Stepped : Type 0 where
  succeeds : Machine → Stepped
  outputs : ℕ → Machine → Stepped
  trap : ℕ → Machine → Stepped
  ill : Stepped

-- m must b else t then rest: where b fails, the trap t with the machine m
unfoldable pub ◌must◌else◌then◌ : Machine → Bool → ℕ → Stepped → Stepped
◌must◌else◌then◌ m true t rest = rest
◌must◌else◌then◌ m false t rest = trap t m

infixr 1 ◌must◌else◌then◌
-- the instructions, those that document 01 treats alike as one: NOP also stands for LABEL, EXTERN, NATIVE; JCC for the conditional jumps;
-- DMP for IDMP, FDMP; READ, WRITE for each width
pub data Integer : Type 0 where
  IADD ISUB IMUL IDIV : Integer

pub data Float : Type 0 where
  FADD FSUB FMUL FDIV : Float

pub data Conversion : Type 0 where
  F2I F2U I2F I2U U2I U2F : Conversion

pub data Op : Type 0 where
  NOP PUSH POP INC DEC CMP SWAP DUP BOT JCC JMP CALL RET DMP READ WRITE HALT : Op
  integer : Integer → Op
  float : Float → Op
  conversion : Conversion → Op

-- by the first byte, from 0 on
abbrev pub numbered : List Op
numbered =
    NOP ∷ PUSH ∷ POP ∷ INC ∷ DEC ∷ integer IADD ∷ integer ISUB ∷ integer IMUL ∷ integer IDIV ∷ CMP
    ∷ SWAP ∷ DUP ∷ JCC ∷ JCC ∷ JCC ∷ JCC ∷ JCC ∷ JCC ∷ JCC ∷ JCC
    ∷ JMP ∷ NOP ∷ BOT ∷ float FADD ∷ float FSUB ∷ float FMUL ∷ float FDIV ∷ DMP ∷ CALL ∷ RET
    ∷ NOP ∷ conversion F2I ∷ conversion F2U ∷ conversion I2F ∷ conversion I2U ∷ conversion U2I ∷ conversion U2F ∷ NOP ∷ READ ∷ WRITE
    ∷ READ ∷ WRITE ∷ READ ∷ WRITE ∷ READ ∷ WRITE ∷ DMP ∷ []

unfoldable pub op_of : ℕ → Op
op_of typ = cond (eqb typ 69) HALT (get_or numbered typ NOP)

-- tests of cells

-- a cell's type is the one given
unfoldable pub number_of : CellType → ℕ
number_of Unknown = 0
number_of F64 = 1
number_of I64 = 2
number_of U64 = 3
number_of Ptr = 4

abbrev pub is : CellType → ℕ → Bool
is t c = eqb (number_of (type_of c)) (number_of t)

abbrev pub type_known : ℕ → Bool
type_known c = not (is Unknown c)

-- the value is below zero
unfoldable pub minus : ℤ → Bool
minus (pos n) = false
minus (negsuc n) = true

-- PUSH, DUP, BOT on 1,024 cells: 21, after 20
unfoldable pub push : ℕ → Machine → Stepped
push v m =
    m must ltb m.height stack_limit else 21 then
    succeeds (onward (pushed v m))

unfoldable pub pop : Machine → Stepped
pop m =
    m must ltb 0 m.height else 20 then
    succeeds (onward (popped m))

-- INC, DEC: the top replaced
unfoldable pub adjust : (ℕ → ℕ) → Machine → Stepped
adjust f m =
    m must ltb 0 m.height else 20 then
    succeeds (onward (replaced (f (top m)) m))

-- the right operand of all eight is last
unfoldable pub of_cells : Integer → ℕ → ℕ → ℕ
of_cells IADD a b = iadd a b
of_cells ISUB a b = isub a b
of_cells IMUL a b = imul a b
of_cells IDIV a b = idiv a b

-- 24 is for IDIV by zero alone
unfoldable pub divides : Integer → ℕ → Bool
divides IADD b = true
divides ISUB b = true
divides IMUL b = true
divides IDIV b = not (eqb (nat_abs (value b)) 0)

-- IADD, ISUB, IMUL, IDIV need two I64 cells; last is popped first, then 31 (either unknown), 30, 24
unfoldable pub integer_step : Integer → Machine → Stepped
integer_step k m =
    let b = top m in
    let p = popped m in
    let a = top p in
    m must leb 2 m.height else 20 then
    p must type_known a && type_known b else 31 then
    p must is I64 a && is I64 b else 30 then
    p must divides k b else 24 then
    succeeds (onward (replaced (of_cells k a b) p))

unfoldable pub of_floats : Float → ℕ → ℕ → ℕ
of_floats FADD a b = sum_bits a b
of_floats FSUB a b = difference_bits a b
of_floats FMUL a b = product_bits a b
of_floats FDIV a b = quotient_bits a b

-- FADD, FSUB, FMUL, FDIV take any cells as binary64
unfoldable pub float_step : Float → Machine → Stepped
float_step k m =
    let p = popped m in
    m must leb 2 m.height else 20 then
    succeeds (onward (replaced (of_floats k (top p) (top m)) p))

-- CMP compares as_u64 of last but one and last, pops last
unfoldable pub compare : Machine → Stepped
compare m =
    let p = popped m in
    m must leb 2 m.height else 20 then
    succeeds (onward (with_flags (cmp (as_u64 (top p)) (as_u64 (top m))) p))

-- SWAP and DUP by depth, 0 the top
unfoldable pub swap : ℕ → Machine → Stepped
swap d m =
    m must ltb d m.height else 20 then
    succeeds (onward (swapped d m))

unfoldable pub dup : ℕ → Machine → Stepped
dup d m =
    m must ltb d m.height else 20 then
    push (cell_at d m) m

-- BOT copies the bottom
unfoldable pub bot : Machine → Stepped
bot m =
    m must ltb 0 m.height else 20 then
    push (bottom m) m

-- conditional jumps look the label up before the flag: 26 even if not taken
unfoldable pub jump_if : Bool → Found → Machine → Stepped
jump_if flag ill_chain m = ill
jump_if flag no_label m = trap 26 m
jump_if flag (leads_to i) m = cond flag (succeeds (moved i m)) (succeeds (onward m))

unfoldable pub jump : Found → Machine → Stepped
jump ill_chain m = ill
jump no_label m = trap 26 m
jump (leads_to i) m = succeeds (moved i m)

-- with the address stacked: 27 leaves it
unfoldable pub call_to : Found → Machine → Stepped
call_to ill_chain m = ill
call_to no_label m = trap 27 (stacked (m.ip + 1) m)
call_to (leads_to i) m = succeeds (moved i (stacked (m.ip + 1) m))

-- CALL: 23, then the address one past it is stacked, then lookup
unfoldable pub call : Found → Machine → Stepped
call found m =
    m must ltb (height_of_calls m) call_limit else 23 then
    call_to found m

-- RET: 22; the pointer is set to the address that it pops
unfoldable pub ret : Machine → Stepped
ret m =
    m must ltb 0 (height_of_calls m) else 22 then
    succeeds (returned m)

-- IDMP, FDMP: 20, then 32 unless the stream is 1 or 2; the cell stays
unfoldable pub dump : ℕ → Machine → Stepped
dump stream m =
    m must ltb 0 m.height else 20 then
    m must eqb stream 1 || eqb stream 2 else 32 then
    outputs (top m) (onward m)

-- what a conversion does with the cell c: whether it takes c's type, whether c is below zero where that is refused, and what it gives
pub record Rule : Type 0 where
  pub takes : Bool
  pub below : Bool
  pub gives : ℕ

abbrev pub rule : Bool → Bool → ℕ → Rule
rule t b g = record { takes = t; below = b; gives = g }

abbrev pub whole : ℕ → Bool
whole c = is I64 c || is U64 c

-- F2I, F2U truncate toward zero and saturate at 64 bits; F2U, I2F, I2U give 29 below zero; I2F, I2U, U2I, U2F take I64 or U64;
-- I2U, U2I keep value under the new type; U2F rounds as_u64
unfoldable pub rule_of : Conversion → ℕ → Rule
rule_of F2I c = rule (is F64 c) false (from_i64 (to_i64 c))
rule_of F2U c = rule (is F64 c) (below_zero c) (from_u64 (to_u64 c))
rule_of I2F c = rule (whole c) (minus (value c)) (of_whole (nat_abs (value c)))
rule_of I2U c = rule (whole c) (minus (value c)) (from_u64 (as_u64 c))
rule_of U2I c = rule (whole c) false (from_i64 (value c))
rule_of U2F c = rule (whole c) false (of_whole (as_u64 c))

-- conversions pop, then 31, 28, 29
unfoldable pub convert : Conversion → Machine → Stepped
convert k m =
    let c = top m in
    let p = popped m in
    m must ltb 0 m.height else 20 then
    p must type_known c else 31 then
    p must (rule_of k c).takes else 28 then
    p must not (rule_of k c).below else 29 then
    succeeds (onward (replaced (rule_of k c).gives m))

-- READ of each width pops the address and pushes one byte as U64; 25 after the pop
unfoldable pub read : Machine → Stepped
read m =
    let a = as_u64 (top m) in
    m must ltb 0 m.height else 20 then
    popped m must ltb a memory_size else 25 then
    succeeds (onward (replaced (from_u64 (get_or m.memory a 0)) m))

-- WRITE of each width stores as_u64 of last modulo 256 at the address in last but one; 25 after the pops
unfoldable pub write : Machine → Stepped
write m =
    let p = popped_by 2 m in
    let a = as_u64 (cell_at 1 m) in
    m must leb 2 m.height else 20 then
    p must ltb a memory_size else 25 then
    succeeds (onward (written a (as_u64 (top m) % 256) p))

-- the instruction i, which op is; `found` is what the lookup of its name would find. HALT sets halted; the pointer stays
unfoldable pub exec : Found → Inst → Machine → Op → Stepped
exec found i m NOP = succeeds (onward m)
exec found i m PUSH = push i.val m
exec found i m POP = pop m
exec found i m INC = adjust inc m
exec found i m DEC = adjust dec m
exec found i m CMP = compare m
exec found i m SWAP = swap i.val m
exec found i m DUP = dup i.val m
exec found i m BOT = bot m
exec found i m JCC = jump_if (is_set m.flags i.typ) found m
exec found i m JMP = jump found m
exec found i m CALL = call found m
exec found i m RET = ret m
exec found i m DMP = dump i.val m
exec found i m READ = read m
exec found i m WRITE = write m
exec found i m HALT = succeeds (stopped m)
exec found i m (integer k) = integer_step k m
exec found i m (float k) = float_step k m
exec found i m (conversion k) = convert k m

abbrev pub inst_at : Program → Machine → Inst
inst_at p m = get_or p.insts m.ip halt

-- not 34 before any lookup: heights within their limits, pointer below the count, the count within its table, a well-formed record
unfoldable pub well_state : Program → Machine → Bool
well_state p m =
    leb m.height stack_limit
    && leb (height_of_calls m) call_limit
    && ltb m.ip p.count
    && leb p.count (length p.insts)
    && well_formed p.image (inst_at p m)

-- the step rule
unfoldable pub step : Program → Machine → Stepped
step p m =
    let i = inst_at p m in
    cond (well_state p m) (exec (lookup p i) i m (op_of i.typ)) ill
