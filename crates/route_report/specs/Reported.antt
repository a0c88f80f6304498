-- What the report of a route proves.
use Rattle.std.specs.Prelude.{◌≡◌, ℕ, List, Option, Some, MatchOption}
use Rattle.events.specs.Names.{number_of}
use Rattle.travel_times.specs.Times.{free_times, arrivals}
use Rattle.rows.specs.Joined.{ends_of}
use Rattle.walks.specs.{Rounds.label_at, Walks.NoWalk, Walks.IsLeast}
use Rattle.router.specs.Ways.{IsLeastWay}
use Rattle.route_report.specs.Report.{RoadMap, search_on, route_lines}

-- no walk joins a node of the one name to a node of the other
abbrev pub NoWay : RoadMap → List ℕ → List ℕ → Type 0
NoWay M from to = (start end : ℕ) → number_of from M.node_names ≡ Some start → number_of to M.node_names ≡ Some end →
    NoWalk (ends_of M.links) start end

-- the text tells a route between nodes of these names: it is a walk that arrives in the second told, and no walk arrives earlier; and the
-- labels told are the least arrivals at all nodes, where those without one are reached by no walk
pub record IsReport (M : RoadMap) (from to : List ℕ) (second : ℕ) (text : List ℕ) : Type 0 where
  pub start : ℕ
  pub end : ℕ
  pub links : List ℕ
  pub arrival : ℕ
  pub labels : List (Option ℕ)
  pub from_start : number_of from M.node_names ≡ Some start
  pub to_end : number_of to M.node_names ≡ Some end
  pub least : IsLeastWay (search_on M start second) end links arrival
  pub reached : (node : ℕ) → MatchOption (label_at labels node) (NoWalk (ends_of M.links) start node)
      (IsLeast (ends_of M.links) (arrivals (free_times M.links)) start second node)
  pub told : text ≡ route_lines M links arrival labels
