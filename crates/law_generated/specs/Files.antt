-- What the files of a grid give to the files behind them.
use Rattle.std.specs.Prelude.{ℕ, List, map}
use Rattle.network.specs.{Links.link_names, Links.link_of, Nodes.node_names}
use Rattle.records.specs.{Fields.column, Files.body_of}
use Rattle.rows.specs.{Joined.ends_of, declared.schedule.StopRow.StopRow}
use Rattle.schedule.specs.Stops.{stop_of}
use Rattle.workload.specs.Texts.{links_text, nodes_text, routes_text, stops_text}

-- the names of the nodes, and those of the links
abbrev pub nodes_named : ℕ → List (List ℕ)
nodes_named size = node_names (nodes_text size)

abbrev pub links_named : ℕ → List (List ℕ)
links_named size = link_names (links_text size)

-- where each link begins and where it ends
abbrev pub link_ends : ℕ → List (ℕ × ℕ)
link_ends size = ends_of (map (link_of (nodes_named size)) (body_of (links_text size)))

-- the names of the stops, and their links
abbrev pub stops_named : ℕ → List (List ℕ)
stops_named size = column 0 (body_of (stops_text size))

abbrev pub stops_placed : ℕ → List StopRow
stops_placed size = map (stop_of (links_named size)) (body_of (stops_text size))

-- the names of the routes
abbrev pub routes_named : ℕ → List (List ℕ)
routes_named size = column 1 (body_of (routes_text size))
