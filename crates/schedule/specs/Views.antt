-- What the files give, as lists.
use Rattle.std.specs.Prelude.{ℕ, List}
use Rattle.rows.specs.declared.schedule.{DepartureRow.DepartureRow, Departures.Departures, RouteRow.RouteRow, Routes.Routes, StopRow.StopRow, Stops.Stops}

-- names and stops
abbrev pub stop_lists : Stops → List (List ℕ) × List StopRow
stop_lists stops = (stops.names, stops.rows)

-- lines, names and routes
abbrev pub route_lists : Routes → List (List ℕ) × List (List ℕ) × List RouteRow
route_lists routes = (routes.lines, routes.names, routes.rows)

-- names and departures
abbrev pub departure_lists : Departures → List (List ℕ) × List DepartureRow
departure_lists departures = (departures.names, departures.rows)
