-- The setup of a day in a town.
use Rattle.std.specs.Prelude.{ℕ, List, [], length, map, get_or}
use Rattle.draws.specs.Words.{word, node_source}
use Rattle.rows.specs.{Greens.is_green, Greens.green_at, PlanRows.PlanRows, declared.schedule.DepartureRow.DepartureRow, declared.schedule.RouteRow.RouteRow}
use Rattle.traffic.specs.Setup.{Setup, Departure}
use Rattle.town.specs.Rows.{TownRows}

abbrev pub route_at : List RouteRow → ℕ → RouteRow
route_at routes number = get_or routes number (record { line = 0; links = []; calls = [] })

-- a departure on a route
abbrev pub on_route : RouteRow → DepartureRow → Departure
on_route route d = record { second = d.second; seats = d.seats; line = route.line; route = route.links; calls = route.calls }

-- a departure on the route that it names
abbrev pub departure_of : List RouteRow → DepartureRow → Departure
departure_of routes d = on_route (route_at routes d.route) d

-- a day of a town with these chosen plans, one for each person, in an iteration
unfoldable pub setup_of : TownRows → List PlanRows → ℕ → Setup
setup_of T chosen iteration = record {
  settings = T.settings;
  nodes = length T.nodes;
  links = T.links;
  stops = T.stops;
  departures = map (departure_of T.routes) T.departures;
  persons = chosen;
  word = λ n place. word (node_source T.seed iteration n) place;
  green = λ l t. is_green (green_at T.greens l) t;
}
