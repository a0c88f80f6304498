-- Which links are always green.
use Rattle.std.specs.Prelude.{◌≡◌, Bool, List, map}
use Rattle.rows.specs.Greens.{Phases}
use Rattle.part_nodes.specs.Turns.{is_always}

-- by number, whether the link with each of these signals is always green
abbrev pub AreSteady : List Phases → List Bool → Type 0
AreSteady greens steady = steady ≡ map is_always greens
