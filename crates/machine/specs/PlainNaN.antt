-- Document 02, request a, as statements: a NaN's type, and what the instructions that look at types do with a plain NaN. Definitions only.
use Rattle.std.specs.Prelude.{ℕ, ◌/◌, ◌%◌, ◌^◌, ◌≤◌, ◌<◌, ◌≡◌, Bool, true, cond, List, [], ◌∷◌, pos, get_or}
use Rattle.binary64.specs.Binary64.{quiet, is_nan, finite, value}
use Rattle.nan.specs.declared.CellType.{CellType}
use Rattle.nan.specs.declared.CellType.TheVariants.{F64, I64, U64, Ptr, Unknown}
use Rattle.nan.specs.Cells.{type_of, from_i64, from_u64}
use Rattle.machine.specs.declared.Machine.{Machine}
use Rattle.machine.specs.Change.{onward, top, popped, replaced}
use Rattle.machine.specs.Step.{succeeds, trap, type_known, Integer, integer_step, Float, FDIV, of_floats, float_step, F2I, F2U, I2F, I2U, U2I, U2F, convert}

-- a NaN's type by its bits 48 to 51, from 0 to 15, whatever its sign and what is below
abbrev pub types : List CellType
types =
    Unknown ∷ F64 ∷ I64 ∷ U64 ∷ Ptr ∷ Unknown ∷ Unknown ∷ Unknown
    ∷ F64 ∷ Unknown ∷ Unknown ∷ Unknown ∷ Unknown ∷ Unknown ∷ Unknown ∷ Unknown ∷ []

abbrev pub TypesOfNaNs : Type 0
TypesOfNaNs = (c : ℕ) → is_nan c ≡ true → type_of c ≡ get_or types (c / 2 ^ 48 % 16) Unknown

-- document 02's plain NaN: 8 in these bits
abbrev pub PlainNaN : ℕ → Type 0
PlainNaN c = (is_nan c ≡ true) × (c / 2 ^ 48 % 16 ≡ 8)

-- the top of m is of type F64, and both conversions of it give 0: F2I the I64, F2U the U64, in its place
pub record ConvertsToZero (m : Machine) : Type 0 where
  pub type_is : type_of (top m) ≡ F64
  pub f2i : convert F2I m ≡ succeeds (onward (replaced (from_i64 (pos 0)) m))
  pub f2u : convert F2U m ≡ succeeds (onward (replaced (from_u64 0) m))

-- the conversions that take I64 or U64 trap 28, the top popped
pub record TrapsWrongType (m : Machine) : Type 0 where
  pub i2f : convert I2F m ≡ trap 28 (popped m)
  pub i2u : convert I2U m ≡ trap 28 (popped m)
  pub u2i : convert U2I m ≡ trap 28 (popped m)
  pub u2f : convert U2F m ≡ trap 28 (popped m)

pub record PlainNaNs : Type 0 where
  -- F2I and F2U of it give 0, also with its sign set: a NaN isn't below zero
  pub converts : (m : Machine) → 0 < m.height → PlainNaN (top m) → ConvertsToZero m
  -- I2F, I2U, U2I and U2F of it trap 28
  pub wrong_type : (m : Machine) → 0 < m.height → PlainNaN (top m) → TrapsWrongType m
  -- IADD, ISUB, IMUL and IDIV with it as last, or as the operand below, trap 30, or 31 where the other is unknown; IDIV by it too, before 24
  pub last : (k : Integer) (m : Machine) → 2 ≤ m.height → PlainNaN (top m) → integer_step k m ≡ trap (cond (type_known (top (popped m))) 30 31) (popped m)
  pub below : (k : Integer) (m : Machine) → 2 ≤ m.height → PlainNaN (top (popped m)) → integer_step k m ≡ trap (cond (type_known (top m)) 30 31) (popped m)
  -- every NaN that FADD, FSUB, FMUL and FDIV give, of any cells, is one
  pub results : (k : Float) (a b : ℕ) → is_nan (of_floats k a b) ≡ true → PlainNaN (of_floats k a b)

-- where FADD, FSUB, FMUL or FDIV leaves a NaN on top, that converts to 0
abbrev pub NaNResultConverts : Type 0
NaNResultConverts = (k : Float) (m m' : Machine) → float_step k m ≡ succeeds m' → is_nan (top m') ≡ true → ConvertsToZero m'

-- FDIV of 0.0 and 0.0, zeros of either sign, gives the NaN of arithmetic, and what it leaves converts to 0
abbrev pub ZeroByZeroConverts : Type 0
ZeroByZeroConverts =
    (s t : Bool) (m m' : Machine) → float_step FDIV m ≡ succeeds m' → value (top (popped m)) ≡ finite s 0 → value (top m) ≡ finite t 0
    → (of_floats FDIV (top (popped m)) (top m) ≡ quiet) × ConvertsToZero m'
