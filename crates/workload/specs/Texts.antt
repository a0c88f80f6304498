-- The texts of a grid's files.
use Rattle.std.specs.Prelude.{ℕ, ◌-◌, ◌*◌, List, [], ◌++◌, codes, decimal, Option, Some}
use Rattle.std.specs.List.{flat_map, range_with_len}
use Rattle.edge_files.specs.declared.files.InFile.{InFile}
use Rattle.edge_files.specs.declared.files.InFile.TheVariants as file
use Rattle.records.specs.Rows.{Row}
use Rattle.plan_text.specs.Lines.{row_line}
use Rattle.workload.specs.{Commuters.commuter, Links.grid_links, Rows.node_row, Rows.link_row, Rows.person_rows, Rows.stop_row, Rows.route_row}
use Rattle.workload.specs.{Rows.departure_row, declared.TheConstants.PERSONS_PER_NODE, declared.TheConstants.DEPARTURES}

-- the lines of rows
abbrev pub lines_of : List Row → List ℕ
lines_of rows = flat_map row_line rows

unfoldable pub nodes_text : ℕ → List ℕ
nodes_text size = codes "node,x,y\n" ++ flat_map (λ node. row_line (node_row size node)) (range_with_len 0 (size * size))

unfoldable pub links_text : ℕ → List ℕ
links_text size = codes "link,from,to,length,speed,capacity,lanes\n" ++ flat_map (λ link. row_line (link_row link)) (grid_links size)

-- a person's lines
abbrev pub person_lines : ℕ → List (ℕ × ℕ) → ℕ → ℕ → List ℕ
person_lines size links seed person = lines_of (person_rows size person (commuter size links seed person))

unfoldable pub plans_text : ℕ → ℕ → List ℕ
plans_text size seed =
    codes "person,plan,kind,name,link,time,route\n" ++ flat_map (person_lines size (grid_links size) seed) (range_with_len 0 (PERSONS_PER_NODE * size * size))

unfoldable pub stops_text : ℕ → List ℕ
stops_text size = codes "stop,link\n" ++ flat_map (λ stop. row_line (stop_row stop)) (range_with_len 0 (size - 1))

unfoldable pub routes_text : ℕ → List ℕ
routes_text size = codes "line,route,links,stops\n" ++ row_line (route_row size)

-- so many departures
unfoldable pub departures_text : ℕ → List ℕ
departures_text count = codes "departure,route,second,seats\n" ++ flat_map (λ departure. row_line (departure_row departure)) (range_with_len 0 count)

-- settings.json: one line without spaces
unfoldable pub settings_text : ℕ → ℕ → List ℕ
settings_text seed last_iteration =
    codes "{\"flow_permille\":100,\"last_iteration\":" ++ decimal last_iteration
    ++ codes ",\"seed\":" ++ decimal seed
    ++ codes ",\"storage_permille\":100,\"tables\":[{\"kind\":\"home\",\"points\":[[0,-20000000],[43200,60000000],[86400,80000000]]},"
    ++ codes "{\"kind\":\"work\",\"latest\":32400,\"points\":[[0,-20000000],[28800,60000000]]}],"
    ++ codes "\"weight_keep\":0,\"weight_logit\":70,\"weight_reroute\":20,\"weight_time\":10}"

-- the text of a file; what else a scenario may have is empty: there are no signals
abbrev pub file_text : ℕ → ℕ → ℕ → InFile → List ℕ
file_text size seed last_iteration file.Settings = settings_text seed last_iteration
file_text size seed last_iteration file.Nodes = nodes_text size
file_text size seed last_iteration file.Links = links_text size
file_text size seed last_iteration file.Plans = plans_text size seed
file_text size seed last_iteration file.Stops = stops_text size
file_text size seed last_iteration file.Routes = routes_text size
file_text size seed last_iteration file.Departures = departures_text DEPARTURES
file_text size seed last_iteration _ = []

-- the files of a grid, all together: none of them is left out
abbrev pub grid_texts : ℕ → ℕ → ℕ → InFile → Option (List ℕ)
grid_texts size seed last_iteration file = Some (file_text size seed last_iteration file)
