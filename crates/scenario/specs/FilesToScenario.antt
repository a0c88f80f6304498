-- What the files of a scenario give, or their first fault.
use Rattle.std.specs.Prelude.{◌≡◌, ℕ, ◌<◌, ◌≤◌, ◌^◌, true, List, [], ◌∷◌, length, map, Option, All}
use Rattle.std.specs.List.{list_all}
use Rattle.edge_files.specs.declared.files.InFile.TheVariants as file
use Rattle.events.specs.declared.event.Book.{Book}
use Rattle.limits.specs.declared.TheConstants.{MAX_DEPARTURES, MAX_ROUTES, MAX_STOPS}
use Rattle.records.specs.{Faults.or_else, Faults.fault_at, Fields.column, Files.body_of}
use Rattle.rows.specs.{Greens.Phases, Joined.ends_of, PlanRows.PlanRows, Schedules.is_stop, Schedules.is_route, Schedules.is_departure}
use Rattle.rows.specs.declared.network.{LinkRow.LinkRow, NodeRow.NodeRow}
use Rattle.rows.specs.declared.schedule.{DepartureRow.DepartureRow, RouteRow.RouteRow, StopRow.StopRow}
use Rattle.network.specs.{Links.links_fault, Links.link_names, Links.link_of, Nodes.nodes_fault, Nodes.node_names, Nodes.node_of}
use Rattle.learning.specs.declared.settings.Learning.{Learning}
use Rattle.plan_memory.specs.Memories.{MemoryRows, first_memory}
use Rattle.plans.specs.{Progress.IsSound, Read.file_rows_of, Values.PlanFileRows, Values.tables_of, Values.plans_fault, Values.file_rows}
use Rattle.schedule.specs.Departures.{departures_fault, departure_of}
use Rattle.schedule.specs.{Routes.routes_fault, Routes.lines_of, Routes.routes_of, Stops.stops_fault, Stops.stop_of}
use Rattle.scoring.specs.Tables.{ScoringRows}
use Rattle.signals.specs.Signals.{SignalRows, signals_fault, signal_rows_of, clash_fault}
use Rattle.signals.specs.{Views.signal_view, declared.conflict.Conflict.Conflict}
use Rattle.settings.specs.{Faults.FileValues, Faults.settings_fault, Faults.file_of, Numbered.by_number, Values.Values}
use Rattle.town.specs.Rows.{TownRows}
use Rattle.travel_times.specs.Times.{arrivals, free_times}
use Rattle.walks.specs.Arrivals.{Arrivals}
use Rattle.router.specs.{Graphs.Graph, Graphs.graph_on, Legs.route_between}
use Rattle.car_routes.specs.Plans.{all_routed}
use Rattle.scenario.specs.{Faults.in_file, Faults.fault_in, Faults.first_of, Legs.LegChecks, Legs.numbers_in, Legs.settled, Legs.plan_in_town}
use Rattle.scenario.specs.{Legs.rows_cross_fault, Legs.all_plans_fault, Texts.Texts, Texts.bytes_in}
use Rattle.scenario.specs.declared.{faults.ScenarioFault.ScenarioFault, files_read.FilesRead.FilesRead, schedules.Schedule.Schedule}

-- names and rows of nodes and of links
pub record NetworkRows : Type 0 where
  pub node_names : List (List ℕ)
  pub nodes : List NodeRow
  pub link_names : List (List ℕ)
  pub links : List LinkRow

-- what nodes.csv and links.csv give
unfoldable pub network_rows_of : Texts → NetworkRows
network_rows_of T = record {
  node_names = node_names (bytes_in T file.Nodes);
  nodes = map node_of (body_of (bytes_in T file.Nodes));
  link_names = link_names (bytes_in T file.Links);
  links = map (link_of (node_names (bytes_in T file.Nodes))) (body_of (bytes_in T file.Links));
}

-- names and rows of stops, of routes, which have lines, and of departures
pub record ScheduleRows : Type 0 where
  pub stop_names : List (List ℕ)
  pub stops : List StopRow
  pub lines : List (List ℕ)
  pub route_names : List (List ℕ)
  pub routes : List RouteRow
  pub departure_names : List (List ℕ)
  pub departures : List DepartureRow

-- the schedule that the code has, as definitions see it
abbrev pub schedule_view : Schedule → ScheduleRows
schedule_view schedule = record {
  stop_names = schedule.stops.names;
  stops = schedule.stops.rows;
  lines = schedule.routes.lines;
  route_names = schedule.routes.names;
  routes = schedule.routes.rows;
  departure_names = schedule.departures.names;
  departures = schedule.departures.rows;
}

-- the stops, which have a name each, the routes and the departures are within their limits, and name links, lines, stops and routes that are there
pub record IsSchedule (links : ℕ) (ends : List (ℕ × ℕ)) (t : ScheduleRows) : Type 0 where
  pub each_stop : length t.stop_names ≡ length t.stops
  pub few_stops : length t.stops ≤ MAX_STOPS
  pub stops : list_all (is_stop links) t.stops ≡ true
  pub few_routes : length t.routes ≤ MAX_ROUTES
  pub routes : list_all (is_route (length t.lines) links ends t.stops) t.routes ≡ true
  pub few_departures : length t.departures ≤ MAX_DEPARTURES
  pub departures : list_all (is_departure (length t.routes)) t.departures ≡ true

-- the names of the stops
abbrev pub stop_names : List ℕ → List (List ℕ)
stop_names stops = column 0 (body_of stops)

-- the stops on links of these names
abbrev pub stop_rows : List (List ℕ) → List ℕ → List StopRow
stop_rows links stops = map (stop_of links) (body_of stops)

-- the names of the routes
abbrev pub route_names : List ℕ → List (List ℕ)
route_names routes = column 1 (body_of routes)

-- what stops.csv, routes.csv and departures.csv give, on links of these names
unfoldable pub schedule_rows_of : List (List ℕ) → Texts → ScheduleRows
schedule_rows_of links T = record {
  stop_names = stop_names (bytes_in T file.Stops);
  stops = stop_rows links (bytes_in T file.Stops);
  lines = lines_of (body_of (bytes_in T file.Routes));
  route_names = route_names (bytes_in T file.Routes);
  routes = routes_of links (stop_names (bytes_in T file.Stops)) (stop_rows links (bytes_in T file.Stops)) (body_of (bytes_in T file.Routes));
  departure_names = column 0 (body_of (bytes_in T file.Departures));
  departures = map (departure_of (route_names (bytes_in T file.Routes))) (body_of (bytes_in T file.Departures));
}

-- what signals.csv gives, on links of these names
abbrev pub signals_on : List (List ℕ) → Texts → SignalRows
signals_on links T = signal_rows_of links (body_of (bytes_in T file.Signals))

-- what plans.csv gives, on links of these names
abbrev pub persons_on : List (List ℕ) → Texts → PlanFileRows
persons_on links T = file_rows links (bytes_in T file.Plans)

-- WHAT IS READ OVER A NETWORK
-- the first fault of plans.csv by itself, over links of these names and ends
abbrev pub persons_fault : List (List ℕ) → List (ℕ × ℕ) → Texts → Option ScenarioFault
persons_fault links ends T = fault_in T file.Plans (plans_fault links ends)

-- the first fault of stops.csv, routes.csv and departures.csv, over links of these names and ends
unfoldable pub schedule_fault : List (List ℕ) → List (ℕ × ℕ) → Texts → Option ScenarioFault
schedule_fault links ends T =
    or_else (fault_in T file.Stops (stops_fault links)) (
    or_else (fault_in T file.Routes (routes_fault links ends (stop_names (bytes_in T file.Stops)) (stop_rows links (bytes_in T file.Stops)))) (
    fault_in T file.Departures (departures_fault (route_names (bytes_in T file.Routes)))))

-- the first fault of signals.csv by itself, over links of these names and ends
abbrev pub signals_file_fault : List (List ℕ) → List (ℕ × ℕ) → Texts → Option ScenarioFault
signals_file_fault links ends T = fault_in T file.Signals (signals_fault links ends)

-- the first fault of each file that is read over a network, in their order, over links of these names and ends
abbrev pub read_faults : List (List ℕ) → List (ℕ × ℕ) → Texts → List (Option ScenarioFault)
read_faults links ends T =
    persons_fault links ends T
    ∷ schedule_fault links ends T
    ∷ signals_file_fault links ends T
    ∷ []

-- the first of them
abbrev pub read_fault : List (List ℕ) → List (ℕ × ℕ) → Texts → Option ScenarioFault
read_fault links ends T = first_of (read_faults links ends T)

-- plans, schedule and signals
pub record ReadRows : Type 0 where
  pub plans : PlanFileRows
  pub schedule : ScheduleRows
  pub signals : SignalRows

-- what the files give that are read over a network, on links of these names
abbrev pub read_on : List (List ℕ) → Texts → ReadRows
read_on links T = record {
  plans = persons_on links T;
  schedule = schedule_rows_of links T;
  signals = signals_on links T;
}

-- the same as the code has it
abbrev pub read_view : FilesRead → ReadRows
read_view read = record { plans = file_rows_of read.plans; schedule = schedule_view read.schedule; signals = signal_view read.signals }

-- each fits the network: plans, which begin in rows that can be numbered, and the schedule name what is there, and each link has its signal
-- or none
pub record IsReadOn (count : ℕ) (links : List (List ℕ)) (ends : List (ℕ × ℕ)) (read : ReadRows) : Type 0 where
  pub plans : IsSound links ends read.plans
  pub starts : All (λ row. row < 2 ^ 30) read.plans.starts
  pub schedule : IsSchedule count ends read.schedule
  pub greens : length read.signals.greens ≡ count

-- THE TOWN
-- what the legs of plans are held against whose routes are filled
unfoldable pub leg_checks_in : PlanFileRows → ScheduleRows → LegChecks
leg_checks_in plans schedule =
    settled (record { lines = numbers_in plans.lines schedule.lines; stops = numbers_in plans.stops schedule.stop_names })
    schedule.stops schedule.routes

-- the network as searches go along it
abbrev pub graph_between : NetworkRows → Graph
graph_between network = graph_on (length network.nodes) network.links

-- when the end of each link is reached at its free speed
abbrev pub free_arrivals : NetworkRows → Arrivals
free_arrivals network = arrivals (free_times network.links)

-- what the legs of plans.csv are held against: the route of a car leg without a link is that of least arrival at free speed, left at the
-- planned end of the activity before it, where there is one of at most 1,000 links
abbrev pub with_search : NetworkRows → LegChecks → LegChecks
with_search network W = record {
  numbers = W.numbers;
  stops = W.stops;
  routes = W.routes;
  searched = route_between (graph_between network) (free_arrivals network);
}

-- the plans with these routes for the car legs that have no link, as far as there are any
unfoldable pub filled_in : NetworkRows → PlanFileRows → PlanFileRows
filled_in network plans = record {
  persons = plans.persons;
  kinds = plans.kinds;
  lines = plans.lines;
  stops = plans.stops;
  plans = all_routed (graph_between network) (free_arrivals network) plans.plans;
  starts = plans.starts;
}

-- what was read, with its plans so
abbrev pub with_filled : NetworkRows → ReadRows → ReadRows
with_filled network read = record read { plans = filled_in network read.plans }

-- names for all that events tell of
abbrev pub book_of : NetworkRows → List (List ℕ) → List (List ℕ) → ScheduleRows → Book
book_of network persons kinds schedule = record {
  persons = persons;
  links = network.link_names;
  kinds = kinds;
  stops = schedule.stop_names;
  lines = schedule.lines;
  departures = schedule.departure_names;
}

-- a town, the names of its nodes, and each person's plans in it
pub record PlannedRows : Type 0 where
  pub town : TownRows
  pub node_names : List (List ℕ)
  pub plans : List (List PlanRows)

-- a town, the names of its nodes, what each person remembers at first, what a day is scored by, what persons replan by, and the number of
-- the last iteration
pub record ScenarioRows : Type 0 where
  pub town : TownRows
  pub node_names : List (List ℕ)
  pub memories : List MemoryRows
  pub scoring : ScoringRows
  pub learning : Learning
  pub last_iteration : ℕ

-- the town, with names of persons and of kinds of activities, and with these signals of its links
unfoldable pub town_of : Values → NetworkRows → List (List ℕ) → List (List ℕ) → ScheduleRows → List Phases → TownRows
town_of settings network persons kinds schedule greens = record {
  seed = settings.seed;
  settings = settings.traffic;
  nodes = network.nodes;
  links = network.links;
  stops = schedule.stops;
  routes = schedule.routes;
  departures = schedule.departures;
  greens = greens;
  book = book_of network persons kinds schedule;
}

-- each person's plans, with the town's numbers of lines and stops
abbrev pub plans_of : PlanFileRows → ScheduleRows → List (List PlanRows)
plans_of plans schedule = map (map (plan_in_town (leg_checks_in plans schedule).numbers)) plans.plans

-- the town with its plans
unfoldable pub planned_of : Values → NetworkRows → PlanFileRows → ScheduleRows → List Phases → PlannedRows
planned_of settings network plans schedule greens = record {
  town = town_of settings network plans.persons plans.kinds schedule greens;
  node_names = network.node_names;
  plans = plans_of plans schedule;
}

-- the same of what was read
abbrev pub planned_from : Values → NetworkRows → ReadRows → PlannedRows
planned_from settings network read = planned_of settings network read.plans read.schedule read.signals.greens

-- the first fault of nodes.csv and links.csv
unfoldable pub network_fault : Texts → Option ScenarioFault
network_fault T =
    or_else (fault_in T file.Nodes nodes_fault) (
    fault_in T file.Links (links_fault (node_names (bytes_in T file.Nodes))))

-- the first conflict of signals.csv whose links are both green in some second
unfoldable pub conflict_fault : SignalRows → Option ScenarioFault
conflict_fault signals = in_file file.Signals (clash_fault signals)

-- the first leg of plans.csv that does not fit the files behind it: the least row, and the least of its reasons
unfoldable pub cross_fault : NetworkRows → List ℕ → ScheduleRows → Option ScenarioFault
cross_fault network plans schedule =
    in_file file.Plans (rows_cross_fault (with_search network (leg_checks_in (file_rows network.link_names plans) schedule)) (tables_of network.link_names (body_of plans)) (body_of plans))

-- the same of plans that were read and whose routes are filled, plan by plan
unfoldable pub plans_cross_fault : PlanFileRows → ScheduleRows → Option ScenarioFault
plans_cross_fault plans schedule = in_file file.Plans (all_plans_fault (leg_checks_in plans schedule) plans.starts plans.plans)

-- the first leg of plans.csv that does not fit, and only then the first conflict of signals.csv: of files that have no fault by themselves
unfoldable pub joint_fault : NetworkRows → Texts → ReadRows → Option ScenarioFault
joint_fault network T read = or_else (cross_fault network (bytes_in T file.Plans) read.schedule) (conflict_fault read.signals)

-- the same of what was read, whose routes are filled
unfoldable pub filled_fault : ReadRows → Option ScenarioFault
filled_fault read = or_else (plans_cross_fault read.plans read.schedule) (conflict_fault read.signals)

-- the first fault of the files on network: each by itself, and only then together
unfoldable pub on_network_fault : NetworkRows → Texts → Option ScenarioFault
on_network_fault network T =
    or_else (read_fault network.link_names (ends_of network.links) T) (joint_fault network T (read_on network.link_names T))

-- the town with its plans on network, each car leg of which has a route
unfoldable pub on_network : Values → NetworkRows → Texts → PlannedRows
on_network settings network T = planned_from settings network (with_filled network (read_on network.link_names T))

-- the scenario of a town with its plans: each person remembers his plans, of which he has tried none and follows the first one; days are
-- scored by tables for the kinds of activities that plans have, with their numbers
abbrev pub scenario_of : FileValues → PlannedRows → ScenarioRows
scenario_of settings planned = record {
  town = planned.town;
  node_names = planned.node_names;
  memories = map first_memory planned.plans;
  scoring = by_number planned.town.book.kinds settings.scoring;
  learning = settings.day.learning;
  last_iteration = settings.day.last_iteration;
}

-- the scenario that the files give on network, by what settings.json says
abbrev pub scenario_on : FileValues → NetworkRows → Texts → ScenarioRows
scenario_on settings network T = scenario_of settings (on_network settings.day network T)

-- the first fault of the files: each by itself, in their order, and only then the first leg of plans.csv that does not fit, and the first conflict
-- of signals.csv
unfoldable pub scenario_fault : Texts → Option ScenarioFault
scenario_fault T =
    or_else (fault_in T file.Settings (λ bytes. fault_at 0 (settings_fault bytes))) (
    or_else (network_fault T) (
    on_network_fault (network_rows_of T) T))

-- the conflicts of signals.csv
abbrev pub conflicts_in : Texts → List Conflict
conflicts_in T = (signals_on (network_rows_of T).link_names T).conflicts

-- the scenario that files without a fault give
unfoldable pub scenario_rows : Texts → ScenarioRows
scenario_rows T = scenario_on (file_of (bytes_in T file.Settings)) (network_rows_of T) T
