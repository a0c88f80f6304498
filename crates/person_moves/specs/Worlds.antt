-- What contracts see of a world.
use Rattle.traffic.specs.Rows as lists
use Rattle.person_moves.specs.declared.world.World.TheInside.{Inside}

abbrev pub world_of : Inside → lists.World
world_of w = record { rows = w.rows.items; persons = w.persons.items; credits = w.credits; holes = w.holes.items }
