-- The report of a route between two nodes.
use Rattle.std.specs.{List.join_with_byte, Option.option_map}
use Rattle.std.specs.Prelude.{ℕ, List, [], ◌∷◌, ◌++◌, length, map, codes, decimal, Option, None, Some, option_and_then}
use Rattle.events.specs.Names.{name_at, number_of}
use Rattle.rows.specs.declared.network.{LinkRow.LinkRow, Network.Network}
use Rattle.travel_times.specs.Times.{free_times}
use Rattle.walks.specs.Rounds.{label_at}
use Rattle.router.specs.{Graphs.graph_on, Ways.Query, Ways.least_of, Ways.route_of}

-- the names of nodes and of links, and the links
pub record RoadMap : Type 0 where
  pub node_names : List (List ℕ)
  pub link_names : List (List ℕ)
  pub links : List LinkRow

abbrev pub map_of : Network → RoadMap
map_of network = record { node_names = network.node_names; link_names = network.link_names; links = network.links }

-- the search from a node in a second, at the links' free speed
abbrev pub search_on : RoadMap → ℕ → ℕ → Query
search_on M from second = record {
  graph = graph_on (length M.node_names) M.links;
  times = free_times M.links;
  from = from;
  second = second;
}

-- a node and the second in which it is reached
unfoldable pub label_line : List ℕ → ℕ → List ℕ
label_line name second = codes "label," ++ name ++ codes "," ++ decimal second ++ codes "\n"

-- a node that is not reached has no line
abbrev pub label_text : List ℕ → Option ℕ → List ℕ
label_text name None = []
label_text name (Some second) = label_line name second

-- the lines of all nodes that are reached, by their numbers
unfoldable pub label_lines : List (List ℕ) → List (Option ℕ) → List ℕ
label_lines [] labels = []
label_lines (name ∷ names) [] = []
label_lines (name ∷ names) (label ∷ labels) = label_text name label ++ label_lines names labels

-- the second of arrival, the links, and the label of each node that is reached
unfoldable pub route_lines : RoadMap → List ℕ → ℕ → List (Option ℕ) → List ℕ
route_lines M links arrival labels =
    codes "route," ++ decimal arrival ++ codes "\nlinks," ++ join_with_byte 32
    (map (name_at M.link_names) links) ++ codes "\n" ++ label_lines M.node_names labels

-- the report of the chosen route to a node; none where no walk leads there
abbrev pub text_of : RoadMap → Query → ℕ → Option (List ℕ)
text_of M query to = option_map (λ at. route_lines M (route_of query to) at (least_of query)) (label_at (least_of query) to)

-- the same between nodes of these names; none either where a name is no node's
unfoldable pub route_text : RoadMap → List ℕ → List ℕ → ℕ → Option (List ℕ)
route_text M from to second =
    option_and_then (λ start. option_and_then (λ end. text_of M (search_on M start second) end) (number_of to M.node_names))
    (number_of from M.node_names)
