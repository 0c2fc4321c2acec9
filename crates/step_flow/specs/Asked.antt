-- What a jump or CALL goes by.
use Rattle.std.specs.Prelude.{Option, Some, None}
use Rattle.machine.specs.Lookup.{Found, ill_chain}
use Rattle.step_core.specs.Parts.{LookedUp, found_of}

-- what its lookup found; without a lookup no jump goes anywhere, as at an ill chain
abbrev pub found_if_asked : Option LookedUp → Found
found_if_asked None = ill_chain
found_if_asked (Some found) = found_of found
