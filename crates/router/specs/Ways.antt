-- What a search is asked, and what it answers.
use Rattle.std.specs.Prelude.{◌≡◌, ℕ, Bool, true, nat_lt, List, unwrap_or, Option, None, Some}
use Rattle.travel_times.specs.Times.{LinkProfile, arrivals}
use Rattle.walks.specs.{Chosen.chosen_route, Rounds.label_at, Rounds.least_labels, Walks.IsWalk, Walks.arrival, Walks.IsLeast}
use Rattle.rows.specs.declared.network.Network.{Network}
use Rattle.router.specs.Graphs.{Graph, graph_of}

-- a search on a graph by travel times, from a node in a second
pub record Query : Type 0 where
  pub graph : Graph
  pub times : List LinkProfile
  pub from : ℕ
  pub second : ℕ

-- the least arrivals at all nodes
abbrev pub least_of : Query → List (Option ℕ)
least_of query = least_labels query.graph.nodes query.graph.ends (arrivals query.times) query.from query.second

-- the chosen route to a node
abbrev pub route_of : Query → ℕ → List ℕ
route_of query to = chosen_route query.graph.nodes query.graph.ends (arrivals query.times) (least_of query) query.from to

-- this is the chosen route to the node, and it arrives in this second; it is a walk, and no walk arrives earlier
pub record IsLeastWay (query : Query) (to : ℕ) (links : List ℕ) (at : ℕ) : Type 0 where
  pub chosen : links ≡ route_of query to
  pub label : label_at (least_of query) to ≡ Some at
  pub walk : IsWalk query.graph.ends query.from links to
  pub arrives : arrival (arrivals query.times) query.second links ≡ at
  pub least : IsLeast query.graph.ends (arrivals query.times) query.from query.second to at

-- the search on a network
abbrev pub query_on : Network → List LinkProfile → ℕ → ℕ → Query
query_on network times from second = record { graph = graph_of network; times = times; from = from; second = second }

-- the number is below the other, where there is another
abbrev pub is_below : ℕ → Option ℕ → Bool
is_below number None = true
is_below number (Some other) = nat_lt number other

-- the label of a node, and 0 where it has none
abbrev pub label_or_0 : List (Option ℕ) → ℕ → ℕ
label_or_0 labels node = unwrap_or (label_at labels node) 0
