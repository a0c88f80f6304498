-- What a search keeps: the question, and how far it has come.
use Rattle.std.specs.Prelude.{◌≡◌, ◌<◌, ◌≤◌, List, [], length}
use Rattle.limits.specs.declared.TheConstants.{MAX_NODES}
use Rattle.travel_times.specs.Times.{LinkProfile, arrivals}
use Rattle.walks.specs.Walks.{AreWithin}
use Rattle.router.specs.{Frontiers.IsFrontier, Graphs.Graph, Ways.Query, declared.frontier.Frontier.Frontier, declared.search.Search.TheInside.Inside}

-- the question of a frontier on a graph by travel times
abbrev pub asked : Graph → List LinkProfile → Frontier → Query
asked graph times frontier = record { graph = graph; times = times; from = frontier.from; second = frontier.second }

abbrev pub query_of : Inside → Query
query_of s = asked s.adjacency.now s.times.now s.frontier

-- the start and the links are on the graph, and the search is that from the start
pub record IsAsked (s : Inside) : Type 0 where
  pub few : s.adjacency.now.nodes ≤ MAX_NODES
  pub inside : AreWithin s.adjacency.now.nodes s.adjacency.now.ends
  pub from : s.frontier.from < s.adjacency.now.nodes
  pub times : length s.times.now ≡ length s.adjacency.now.ends
  pub search : IsFrontier s.adjacency.now.nodes s.adjacency.now.ends (arrivals s.times.now) s.frontier []
