-- `from_u64` meets its contract: the check finds that it rounds, and not that up to 2 ^ 53 it is exact.
use Rattle.float64.proofs.Conversions.{exact_of}
use Rattle.float64.proofs.from_u64.Goals as goal

pub returns-clause-exact : goal.returns-clause-exact
returns-clause-exact c = exact_of c.args.n c.nearest_u64_to_f64.ensures c.f64_to_bits_with_nan.ensures
