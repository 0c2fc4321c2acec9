-- The functions of float64 by a number, for a caller from C or Rust.
use Rattle.std.specs.Prelude.{ℕ, Bool, cond, eqb}
use Rattle.binary64.specs.Binary64.{sum_bits, difference_bits, product_bits, quotient_bits, to_u64, of_whole, below_zero, is_nan}

abbrev pub bit : Bool → ℕ
bit b = cond b 1 0

-- 0 add, 1 sub, 2 mul, 3 div; of a alone 4 to_u64, 5 from_u64, 6 is_below_zero, any other is_nan
unfoldable pub applied : ℕ → ℕ → ℕ → ℕ
applied n a b =
    cond (eqb n 0) (sum_bits a b)
    (cond (eqb n 1) (difference_bits a b)
    (cond (eqb n 2) (product_bits a b)
    (cond (eqb n 3) (quotient_bits a b)
    (cond (eqb n 4) (to_u64 a)
    (cond (eqb n 5) (of_whole a)
    (cond (eqb n 6) (bit (below_zero a)) (bit (is_nan a))))))))
