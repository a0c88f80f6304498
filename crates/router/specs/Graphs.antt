-- The nodes and the links that a search goes along.
use Rattle.std.specs.{List.zip, Prelude.◌≡◌, Prelude.ℕ, Prelude.◌≤◌, Prelude.List, Prelude.length}
use Rattle.limits.specs.declared.TheConstants.{MAX_NODES}
use Rattle.rows.specs.{Joined.ends_of, declared.network.LinkRow.LinkRow, declared.network.Network.Network}
use Rattle.walks.specs.Walks.{start_of, end_of, AreWithin}
use Rattle.router.specs.{Stars.AreBeside, declared.adjacency.Adjacency.TheInside.Inside}

-- how many nodes there are, and where each link begins and ends
pub record Graph : Type 0 where
  pub nodes : ℕ
  pub ends : List (ℕ × ℕ)

-- the graph of these links between so many nodes
abbrev pub graph_on : ℕ → List LinkRow → Graph
graph_on nodes links = record { nodes = nodes; ends = ends_of links }

-- the graph of a network
abbrev pub graph_of : Network → Graph
graph_of network = graph_on (length network.nodes) network.links

-- the graph that is kept with the links beside each node
abbrev pub kept_graph : Inside → Graph
kept_graph adjacency = record { nodes = length adjacency.out; ends = zip adjacency.from.items adjacency.to.items }

pub record IsAdjacency (adjacency : Inside) : Type 0 where
  pub few : length adjacency.out ≤ MAX_NODES
  pub each : length adjacency.to.items ≡ length adjacency.from.items
  pub same : length adjacency.into ≡ length adjacency.out
  pub inside : AreWithin (length adjacency.out) (zip adjacency.from.items adjacency.to.items)
  pub out : AreBeside (start_of (zip adjacency.from.items adjacency.to.items)) (end_of (zip adjacency.from.items adjacency.to.items))
      (length adjacency.from.items) adjacency.out
  pub into : AreBeside (end_of (zip adjacency.from.items adjacency.to.items)) (start_of (zip adjacency.from.items adjacency.to.items))
      (length adjacency.from.items) adjacency.into
