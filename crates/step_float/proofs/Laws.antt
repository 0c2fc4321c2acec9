-- With a NaN operand each of the four operations gives the NaN that results are written as. Assumes nothing.
use Prim.Native.Nat.{ℕ}
use mathlib.Core.Path.{◌≡◌}
use mathlib.Core.Bool.{true}
use Rattle.binary64.specs.Binary64.{value, is_nan, quiet, sum, opposite, product, quotient, sum_bits, difference_bits, product_bits, quotient_bits}
use Rattle.binary64.proofs.Special.{nan_is, sum_nan, product_nan, quotient_nan}
use Rattle.machine.specs.Step.{Float, FADD, FSUB, FMUL, FDIV, of_floats}

module _ (a b : ℕ) where
  pub nan_left : (k : Float) → is_nan a ≡ true → of_floats k a b ≡ quiet
  unfolding of_floats sum_bits difference_bits product_bits quotient_bits sum product quotient
  nan_left FADD h = rw (nan_is a h)
  nan_left FSUB h = rw (nan_is a h)
  nan_left FMUL h = rw (nan_is a h)
  nan_left FDIV h = rw (nan_is a h)

  pub nan_right : (k : Float) → is_nan b ≡ true → of_floats k a b ≡ quiet
  unfolding of_floats sum_bits difference_bits product_bits quotient_bits opposite
  nan_right FADD h = rw (nan_is b h) (sum_nan (value a))
  nan_right FSUB h = rw (nan_is b h) (sum_nan (value a))
  nan_right FMUL h = rw (nan_is b h) (product_nan (value a))
  nan_right FDIV h = rw (nan_is b h) (quotient_nan (value a))
