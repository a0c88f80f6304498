-- The network of a town, as searches go along it.
use Rattle.std.specs.Prelude.{◌≡◌, length}
use Rattle.router.specs.Graphs.{Graph, graph_on}
use Rattle.town.specs.Rows.{TownRows}
use Rattle.walks.specs.Arrivals.{IsFifo}
use Rattle.replanning.specs.Persons.{Basis, IsBasis}

-- the graph of the network of a town
abbrev pub graph_in : TownRows → Graph
graph_in T = graph_on (length T.nodes) T.links

-- persons of the town replan by its network and by travel times by which nobody overtakes; all else is in its range
pub record IsBasisIn (T : TownRows) (basis : Basis) : Type 0 where
  pub graph : basis.graph ≡ graph_in T
  pub fifo : IsFifo basis.arrive
  pub ranges : IsBasis basis
