-- What the files of a grid give to the files behind them.
use Rattle.records.proofs.Common.{◌≡◌, List, ap, ℕ, ◌∙◌, arith, [], ◌++◌, ◌∷◌, refl, ◌≤◌, map, sym, suc, ◌-◌, None, Row, body_of, column}
use Rattle.records.proofs.Common.{number_of, append-nil, length, length-map}
use Rattle.std.proofs.{Common.◌*◌, Common.ap₂, lemmas.List.FromFn.length-range_with_len}
use Rattle.std.specs.{List.AllByRecursion as Each, List.range_with_len, Prelude.codes}
use Rattle.network.specs.{Links.link_of, Links.links_fault, Nodes.node_of}
use Rattle.plan_text.specs.Lines.{row_line}
use Rattle.rows.specs.{Joined.ends_of, Joined.ends_of_link, declared.network.LinkRow.LinkRow, declared.schedule.StopRow.StopRow}
use Rattle.schedule.specs.{Departures.departures_fault, Routes.routes_fault, Stops.stop_of, Stops.stops_fault}
use Rattle.workload.specs.{Links.grid_links, Rows.link_name, Rows.link_row, Rows.node_name, Rows.node_row, Rows.stop_name, Rows.stop_row, Texts.departures_text}
use Rattle.workload.specs.{Texts.links_text, Texts.nodes_text, Texts.plans_text, Texts.routes_text, Texts.stops_text, declared.TheConstants.DEPARTURES}
use Rattle.law_generated.proofs.{Departures.departures_pass, Grid.IsLink, Grid.each_link, Links.grid_link, Links.links_file, Links.links_pass, Links.row_link}
use Rattle.law_generated.proofs.{Nodes.nodes_file, Nodes.numbers, Plans.plans_pass, Routes.grid_line, Routes.line_file, Routes.line_row, Routes.place_of}
use Rattle.law_generated.proofs.{Routes.routes_pass, Stops.stops_file, Stops.stops_pass}
use Rattle.law_generated.specs.Files.{link_ends, links_named, nodes_named, routes_named, stops_named, stops_placed}
use Rattle.law_generated.proofs.Links as links
use Rattle.law_generated.proofs.Nodes as nodes
use Rattle.plans.specs.Values.{plans_fault}
use Rattle.law_generated.proofs.Stops as stops

module _ (size : ℕ) (some : 3 ≤ size) (few : size ≤ 100) where
  pub nodes_are : nodes_named size ≡ map node_name (numbers size)
  nodes_are =
      ap (column 0) (nodes_file size (omega (arith, some)) few).body ∙ nodes.names_are size (omega (arith, some)) few

  pub links_are : links_named size ≡ map link_name (grid_links size)
  links_are = ap (column 0) (links_file size some few).body ∙ links.names_are size some few

  ends_of_rows : (xs : List (ℕ × ℕ)) → Each (IsLink size) xs → ends_of (map (link_of (map node_name (numbers size))) (map link_row xs)) ≡ xs
  unfolding ends_of
  ends_of_rows [] all = refl
  ends_of_rows (x ∷ xs) all =
      ap₂ (λ (e : ℕ × ℕ) (l : List (ℕ × ℕ)). e ∷ l) (ap ends_of_link (row_link size some few x all.0)) (ends_of_rows xs all.1)

  pub ends_are : link_ends size ≡ grid_links size
  ends_are =
      ap₂ (λ (names : List (List ℕ)) (rows : List Row). ends_of (map (link_of names) rows)) nodes_are (links_file size some few).body
      ∙ ends_of_rows (grid_links size) (each_link size (omega (arith, some)))

  rows_back : (xs : List (ℕ × ℕ)) → Each (IsLink size) xs → map (link_of (map node_name (numbers size))) (map link_row xs) ≡ map grid_link xs
  rows_back [] all = refl
  rows_back (x ∷ xs) all = ap₂ (λ (l : LinkRow) (ls : List LinkRow). l ∷ ls) (row_link size some few x all.0) (rows_back xs all.1)

  -- what links.csv gives
  pub link_rows_are : map (link_of (nodes_named size)) (body_of (links_text size)) ≡ map grid_link (grid_links size)
  link_rows_are =
      ap₂ (λ (names : List (List ℕ)) (rows : List Row). map (link_of names) rows) nodes_are (links_file size some few).body
      ∙ rows_back (grid_links size) (each_link size (omega (arith, some)))

  -- there are as many nodes as rows of nodes.csv
  pub node_count : length (map node_of (body_of (nodes_text size))) ≡ size * size
  node_count =
      ap (λ (rows : List Row). length (map node_of rows)) (nodes_file size (omega (arith, some)) few).body
      ∙ length-map (map (node_row size) (numbers size)) node_of ∙ length-map (numbers size) (node_row size) ∙ length-range_with_len 0 (size * size)

  pub stops_are : stops_named size ≡ map stop_name (range_with_len 0 (size - 1))
  stops_are = ap (column 0) (stops_file size some few).body ∙ stops.names_are size some few

  pub placed_are : stops_placed size ≡ map (stop_of (map link_name (grid_links size))) (map stop_row (range_with_len 0 (size - 1)))
  placed_are = ap₂ (λ (names : List (List ℕ)) (rows : List Row). map (stop_of names) rows) links_are (stops_file size some few).body

  -- links.csv has no fault
  pub links_valid : links_fault (nodes_named size) (links_text size) ≡ None
  links_valid = ap (λ (names : List (List ℕ)). links_fault names (links_text size)) nodes_are ∙ links_pass size some few

  -- nor has stops.csv
  pub stops_valid : stops_fault (links_named size) (stops_text size) ≡ None
  stops_valid = ap (λ (names : List (List ℕ)). stops_fault names (stops_text size)) links_are ∙ stops_pass size some few

  -- nor routes.csv
  pub routes_valid : routes_fault (links_named size) (link_ends size) (stops_named size) (stops_placed size) (routes_text size) ≡ None
  routes_valid =
      ap₂ (λ (names : List (List ℕ)) (ends : List (ℕ × ℕ)). routes_fault names ends (stops_named size) (stops_placed size) (routes_text size)) links_are ends_are
      ∙ ap₂ (λ (names : List (List ℕ)) (placed : List StopRow). routes_fault (map link_name (grid_links size)) (grid_links size) names placed (routes_text size))
      stops_are placed_are
      ∙ routes_pass size some few

  -- its one row
  pub route_row_is : body_of (routes_text size) ≡ line_row (suc (size - 2)) ∷ []
  unfolding routes_text row_line
  route_row_is =
      let n = size - 2 in
      let count : size - 1 ≡ suc n = omega (arith, some) in
      ap body_of
      (ap (λ (m : ℕ). codes "line,route,links,stops\n" ++ row_line (line_row m)) count
      ∙ ap (λ (t : List ℕ). codes "line,route,links,stops\n" ++ t) (sym (append-nil (row_line (line_row (suc n))))))
      ∙ (line_file n (place_of size some few) (map link_name (grid_links size)) (grid_links size) (map stop_name (range_with_len 0 (size - 1)))
      (map (stop_of (map link_name (grid_links size))) (map stop_row (range_with_len 0 (size - 1)))) (grid_line size some few n count)).body

  -- its one route is called `east`
  routes_are : routes_named size ≡ codes "east" ∷ []
  routes_are = ap (column 1) route_row_is

  -- nor has departures.csv a fault
  pub departures_valid : departures_fault (routes_named size) (departures_text DEPARTURES) ≡ None
  unfolding number_of
  departures_valid =
      ap (λ (names : List (List ℕ)). departures_fault names (departures_text DEPARTURES)) routes_are
      ∙ departures_pass DEPARTURES (omega arith) (codes "east" ∷ []) refl

  -- nor has plans.csv one by itself
  pub plans_valid : (seed : ℕ) → plans_fault (links_named size) (link_ends size) (plans_text size seed) ≡ None
  plans_valid seed =
      ap (λ (names : List (List ℕ)). plans_fault names (link_ends size) (plans_text size seed)) links_are ∙ plans_pass size seed some few (link_ends size)
