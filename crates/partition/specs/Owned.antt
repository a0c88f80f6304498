-- The partition of each node, out of a list.
use Rattle.std.specs.Prelude.{ℕ, List, get_or}
use Rattle.parts.specs.Owners.{Owner}

-- a number that is no node belongs to partition 0
abbrev pub owner_in : List ℕ → Owner
owner_in of_node n = get_or of_node n 0
