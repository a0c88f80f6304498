-- The points of a table, and the value of a second: straight lines from point to point.
use Rattle.std.specs.{Int.int_div_euclid, List.list_all, Option.option_map_or, Prelude.ℕ, Prelude.◌-◌, Prelude.Bool}
use Rattle.std.specs.Prelude.{true, ◌&&◌, nat_lt, nat_le, int_le, List, [], ◌∷◌, length, Option, None, Some, if◌then◌else◌, filter, ℤ, pos, ◌+ℤ◌, ◌-ℤ◌, ◌*ℤ◌}
use Rattle.limits.specs.declared.TheConstants.{LAST_SECOND}
use Rattle.scoring.specs.{Ranges.is_within, declared.TheConstants.MAX_POINT_SECOND, declared.TheConstants.MAX_POINTS, declared.TheConstants.MAX_WORTH}

-- a second, and what is reached there, in micro-utils
abbrev pub Point : Type 0
Point = ℕ × ℤ

-- whether a point is within the limits of a table
abbrev pub is_point : Point → Bool
is_point p = nat_le p.0 MAX_POINT_SECOND && is_within MAX_WORTH p.1

-- whether each point is at a later second than the one before it, of which the first is behind a second
abbrev pub rise_from : ℕ → List Point → Bool
rise_from second [] = true
rise_from second (p ∷ points) = nat_lt second p.0 && rise_from p.0 points

-- whether each point is at a later second than the one before it
abbrev pub are_rising : List Point → Bool
are_rising [] = true
are_rising (p ∷ points) = rise_from p.0 points

-- whether points and the last second in which an activity begins in time are those of a table: 1 to 32 points within its limits, at seconds
-- that rise, and a second up to the last one of an event
abbrev pub is_table : List Point → Option ℕ → Bool
is_table points latest =
    nat_le 1 (length points) && nat_le (length points) MAX_POINTS && list_all is_point points && are_rising points
    && option_map_or (λ second. nat_le second LAST_SECOND) latest true

-- whether no point is lower than the one before it
abbrev pub are_climbing : List Point → Bool
are_climbing [] = true
are_climbing (a ∷ []) = true
are_climbing (a ∷ b ∷ points) = int_le a.1 b.1 && are_climbing (b ∷ points)

-- the points up to a second, and those behind it
abbrev pub up_to : ℕ → List Point → List Point
up_to seconds points = filter (λ p. nat_le p.0 seconds) points

abbrev pub behind : ℕ → List Point → List Point
behind seconds points = filter (λ p. nat_lt seconds p.0) points

abbrev pub first_of : List Point → Option Point
first_of [] = None
first_of (p ∷ points) = Some p

abbrev pub last_of : List Point → Option Point
last_of [] = None
last_of (p ∷ []) = Some p
last_of (p ∷ q ∷ points) = last_of (q ∷ points)

-- the height of the straight line from one point to another at a second, rounded down (towards minus infinity)
abbrev pub on_line : Point → Point → ℕ → ℤ
on_line a b seconds = a.1 +ℤ int_div_euclid ((b.1 -ℤ a.1) *ℤ pos (seconds - a.0)) (pos (b.0 - a.0))

-- between two points the line that joins them, and beyond the ends of a table what is reached at the nearest end
abbrev pub between : Option Point → Option Point → ℕ → ℤ
between (Some a) (Some b) seconds = on_line a b seconds
between (Some a) None seconds = a.1
between None (Some b) seconds = b.1
between None None seconds = pos 0

-- the value of a second: it lies between the last point up to it and the first one behind it
unfoldable pub value : List Point → ℕ → ℤ
value points seconds = between (last_of (up_to seconds points)) (first_of (behind seconds points)) seconds

-- the value at a second that is not before a point, by the points behind it
unfoldable pub along : Point → List Point → ℕ → ℤ
along a [] seconds = a.1
along a (b ∷ points) seconds = if nat_lt seconds b.0 then on_line a b seconds else along b points seconds
