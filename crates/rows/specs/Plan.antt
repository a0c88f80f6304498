-- What a day plan keeps: activities, and a leg between each and the next.
use Rattle.std.specs.Prelude.{ℕ, ◌<◌, Bool, true, false, ◌&&◌, nat_le, nat_lt, List, [], ◌∷◌, length, Option, None, Some}
use Rattle.limits.specs.declared.TheConstants.{LAST_SECOND, MAX_ROUTE_LINKS}
use Rattle.events.specs.declared.event.Mode.{Mode}
use Rattle.events.specs.declared.event.Mode.TheVariants as mode
use Rattle.rows.specs.declared.plan.{Act.Act, Leg.Leg}
use Rattle.rows.specs.declared.plan.Leg.TheVariants as leg

-- the modes of a leg that takes a given time and no vehicle of the simulation
abbrev pub is_teleported : Mode → Bool
is_teleported mode.Car = false
is_teleported mode.Walk = true
is_teleported mode.Bike = true
is_teleported mode.Ride = true
is_teleported mode.Pt = false

-- a route of at most 1,000 links, or a walk, bike or ride of 1 to 172,800 s
abbrev pub is_leg : Leg → Bool
is_leg (leg.Car route) = nat_le (length route) MAX_ROUTE_LINKS
is_leg (leg.Teleport mode seconds) = is_teleported mode && nat_le 1 seconds && nat_le seconds LAST_SECOND
is_leg (leg.Transit line access egress) = true

-- the mode of a leg
abbrev pub mode_of_leg : Leg → Mode
mode_of_leg (leg.Car route) = mode.Car
mode_of_leg (leg.Teleport mode seconds) = mode
mode_of_leg (leg.Transit line access egress) = mode.Pt

-- the route of a leg by car has a link
abbrev pub HasRoute : Leg → Type 0
HasRoute (leg.Car route) = 0 < length route
HasRoute (leg.Teleport mode seconds) = Unit {0}
HasRoute (leg.Transit line access egress) = Unit {0}

-- an end second of at most 172,800
abbrev pub is_end : Option ℕ → Bool
is_end None = false
is_end (Some second) = nat_le second LAST_SECOND

-- the activity has a planned end
abbrev pub has_end : Act → Bool
has_end act = is_end act.end

abbrev pub is_open : Option ℕ → Bool
is_open None = true
is_open (Some second) = false

-- every activity but the last has a planned end
unfoldable pub are_acts : List Act → Bool
are_acts [] = false
are_acts (act ∷ []) = is_open act.end
are_acts (act ∷ next ∷ acts) = has_end act && are_acts (next ∷ acts)

-- an activity and its link are among so many kinds and links
abbrev pub is_known : ℕ → ℕ → Act → Bool
is_known kinds links act = nat_lt act.kind kinds && nat_lt act.link links
