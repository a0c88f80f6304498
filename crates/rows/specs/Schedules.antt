-- What a schedule keeps of its stops, routes and departures.
use Rattle.std.specs.Prelude.{ℕ, Bool, true, false, not, ◌&&◌, ◌||◌, nat_le, nat_lt, nat_eq, List, [], ◌∷◌, length, drop, position, Option, None, Some}
use Rattle.std.specs.List.{list_all}
use Rattle.limits.specs.declared.TheConstants.{LAST_SECOND, MAX_CALLS, MAX_ROUTE_LINKS, MAX_SEATS}
use Rattle.events.specs.declared.lists.StopCall.{StopCall}
use Rattle.rows.specs.{Joined.is_joined, Stops.stop_link}
use Rattle.rows.specs.declared.schedule.{DepartureRow.DepartureRow, RouteRow.RouteRow, StopRow.StopRow}

-- the stop lies on one of so many links
abbrev pub is_stop : ℕ → StopRow → Bool
is_stop links stop = nat_lt stop.link links

abbrev pub served_from : (List ℕ → Bool) → List ℕ → Option ℕ → Bool
served_from others links None = false
served_from others links (Some place) = others (drop place links)

-- each call is served on the first link, from the place of the call before it on, that is its stop's link
unfoldable pub are_served : List StopCall → List ℕ → Bool
are_served [] links = true
are_served (call ∷ calls) links = served_from (are_served calls) links (position (nat_eq call.link) links)

-- the call is at one of the stops, on its link, at an offset of at most 172,800 s
unfoldable pub is_sound_call : List StopRow → StopCall → Bool
is_sound_call rows call = nat_lt call.stop (length rows) && nat_eq call.link (stop_link rows call.stop) && nat_le call.offset LAST_SECOND

-- there are links, and each but the first begins where the one before it ends
abbrev pub is_way : List (ℕ × ℕ) → List ℕ → Bool
is_way ends [] = false
is_way ends (link ∷ links) = is_joined ends (link ∷ links)

-- there is no stop call, or not all of them can be served in order
abbrev pub is_unserved : List StopCall → List ℕ → Bool
is_unserved calls numbers = nat_eq (length calls) 0 || not (are_served calls numbers)

-- the links and the stop calls of a route are such as a transit vehicle can drive: 1 to 1,000 joined links that exist, and 1 to 200 calls that can be served in order
unfoldable pub are_drivable : ℕ → List (ℕ × ℕ) → List StopRow → List ℕ → List StopCall → Bool
are_drivable links ends rows numbers calls =
    list_all (λ link. nat_lt link links) numbers && is_way ends numbers && nat_le (length numbers) MAX_ROUTE_LINKS
    && list_all (is_sound_call rows) calls && not (is_unserved calls numbers) && nat_le (length calls) MAX_CALLS

-- the route has a line of so many, and is drivable
abbrev pub is_route : ℕ → ℕ → List (ℕ × ℕ) → List StopRow → RouteRow → Bool
is_route lines links ends rows route = nat_lt route.line lines && are_drivable links ends rows route.links route.calls

-- the departure is one of a route of so many, at a second up to 172,800 and with 1 to 1,000 seats
unfoldable pub is_departure : ℕ → DepartureRow → Bool
is_departure routes departure = nat_lt departure.route routes && nat_le departure.second LAST_SECOND && nat_le 1 departure.seats && nat_le departure.seats MAX_SEATS
