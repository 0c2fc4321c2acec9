-- Places in a slice of records, whose list as a whole lies in memory. It says nothing of any crate. Assumes nothing.
use Rattle.std.proofs.Common.{ℕ, ◌*◌, ◌<◌, ◌^◌, arith}
use Rattle.std.proofs.Math.Nat.{mul-le-mul_right}

-- the place of a record in bytes from the slice's start: its index, scaled by the size of a record
pub scaled : (size n i : ℕ) → n * size < 2 ^ 64 → i < n → i * size < 2 ^ 64
scaled size n i fits l =
    let below = mul-le-mul_right {m = i} {n = n} size (omega (arith, l)) in
    omega (arith, below, fits)
