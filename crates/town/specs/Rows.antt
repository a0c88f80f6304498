-- A town as lists of rows.
use Rattle.std.specs.{List.list_all, Prelude.◌≡◌, Prelude.ℕ, Prelude.◌≤◌, Prelude.true, Prelude.List, Prelude.length}
use Rattle.limits.specs.declared.TheConstants.{MAX_DEPARTURES, MAX_LINKS, MAX_PERSONS, MAX_ROUTES, MAX_STOPS}
use Rattle.events.specs.declared.event.Book.{Book}
use Rattle.rows.specs.{Greens.Phases, Joined.ends_of, Networks.is_link, Schedules.is_stop, Schedules.is_route, Schedules.is_departure, Settings.AreInRange}
use Rattle.rows.specs.declared.network.{LinkRow.LinkRow, Network.Network, NodeRow.NodeRow}
use Rattle.rows.specs.declared.schedule.{DepartureRow.DepartureRow, Departures.Departures, RouteRow.RouteRow, Routes.Routes, StopRow.StopRow, Stops.Stops}
use Rattle.rows.specs.declared.settings.TrafficSettings.{TrafficSettings}

pub record TownRows : Type 0 where
  -- where all random words begin
  pub seed : ℕ
  pub settings : TrafficSettings
  pub nodes : List NodeRow
  pub links : List LinkRow
  pub stops : List StopRow
  pub routes : List RouteRow
  pub departures : List DepartureRow
  pub greens : List Phases
  -- the names of persons, links, kinds, stops, lines and departures
  pub book : Book

-- every row of a town names rows that are there, within the limits; there are at most 65,536 persons, and a signal for each link
pub record IsTown (T : TownRows) : Type 0 where
  pub settings : AreInRange T.settings
  pub few_persons : length T.book.persons ≤ MAX_PERSONS
  pub few_links : length T.links ≤ MAX_LINKS
  pub links : list_all (is_link (length T.nodes)) T.links ≡ true
  pub few_stops : length T.stops ≤ MAX_STOPS
  pub stops : list_all (is_stop (length T.links)) T.stops ≡ true
  pub few_routes : length T.routes ≤ MAX_ROUTES
  pub routes : list_all (is_route (length T.book.lines) (length T.links) (ends_of T.links) T.stops) T.routes ≡ true
  pub few_departures : length T.departures ≤ MAX_DEPARTURES
  pub departures : list_all (is_departure (length T.routes)) T.departures ≡ true
  pub greens : length T.greens ≡ length T.links

-- the book has the names of the network, the stops, the lines and the departures
pub record IsBook (book : Book) (N : Network) (S : Stops) (R : Routes) (D : Departures) : Type 0 where
  pub links : book.links ≡ N.link_names
  pub stops : book.stops ≡ S.names
  pub lines : book.lines ≡ R.lines
  pub departures : book.departures ≡ D.names

abbrev pub town_rows : ℕ → TrafficSettings → Network → Stops → Routes → Departures → Book → List Phases → TownRows
town_rows seed settings network stops routes departures book greens = record {
  seed = seed;
  settings = settings;
  nodes = network.nodes;
  links = network.links;
  stops = stops.rows;
  routes = routes.rows;
  departures = departures.rows;
  greens = greens;
  book = book;
}
