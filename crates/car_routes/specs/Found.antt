-- The routes that were found, from each node in the order in which they are wanted.
use Rattle.std.specs.List.{range_with_len}
use Rattle.std.specs.Prelude.{◌≡◌, ℕ, ◌+◌, ◌-◌, ◌*◌, min, nat_le, List, map, length, Option, None, Some, if◌then◌else◌}
use Rattle.limits.specs.declared.TheConstants.{MAX_ROUTE_LINKS}
use Rattle.travel_times.specs.Times.{LinkProfile}
use Rattle.walks.specs.Arrivals.{Arrivals}
use Rattle.router.specs.{Graphs.Graph, Routes.way_to, Ways.Query}
use Rattle.car_routes.specs.{Wanted.Pairs, Wanted.wanted_from, Wanted.row_of, Wanted.AreNodes, declared.searches.TheConstants.PART_NODES}

-- a way that is too long for a leg, with the leg's own two links, counts as none
abbrev pub short : Option (List ℕ) → Option (List ℕ)
short None = None
short (Some way) = if nat_le (length way + 2) MAX_ROUTE_LINKS then Some way else None

-- the way from a node, left in second 0, to another
abbrev pub short_way : Graph → Arrivals → ℕ → ℕ → Option (List ℕ)
short_way graph arrive from to = short (way_to graph arrive from 0 to)

-- those to these nodes
abbrev pub ways_from : Graph → Arrivals → ℕ → List ℕ → List (Option (List ℕ))
ways_from graph arrive from to = map (short_way graph arrive from) to

-- those from so many nodes to the targets of each, from one node on
abbrev pub ways_by : Graph → Arrivals → List (List ℕ) → ℕ → ℕ → List (List (Option (List ℕ)))
ways_by graph arrive targets first count = map (λ node. ways_from graph arrive node (row_of targets node)) (range_with_len first count)

-- those from the nodes of a part
abbrev pub part_ways : Graph → Arrivals → List (List ℕ) → ℕ → List (List (Option (List ℕ)))
part_ways graph arrive targets part = ways_by graph arrive targets (part * PART_NODES)
    (min (part * PART_NODES + PART_NODES) (length targets) - part * PART_NODES)

-- the routes that are left are the wanted ones
abbrev pub AreNext : Graph → Arrivals → List (List (Option (List ℕ))) → Pairs → Type 0
AreNext graph arrive found pairs = (node : ℕ) → row_of found node ≡ ways_from graph arrive node (wanted_from node pairs)

-- there is a list of targets for each node, and a travel time for each link
pub record AreTargets (graph : Graph) (times : List LinkProfile) (targets : List (List ℕ)) : Type 0 where
  pub nodes : length targets ≡ graph.nodes
  pub timed : length times ≡ length graph.ends
  pub inside : AreNodes graph.nodes targets

-- the search is on this graph, by these times
pub record IsOn (graph : Graph) (times : List LinkProfile) (search : Query) : Type 0 where
  pub graph_is : search.graph ≡ graph
  pub times_are : search.times ≡ times
