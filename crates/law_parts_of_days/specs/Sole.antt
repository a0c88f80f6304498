-- The partition that has the whole network.
use Rattle.parts.specs.Owners.{Owner}

-- every node belongs to partition 0
abbrev pub sole_owner : Owner
sole_owner n = 0
