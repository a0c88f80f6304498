-- The files of a grid, all together, have no fault.
use Rattle.records.proofs.Common.{◌≡◌, List, ap, ℕ, length, ◌∙◌, arith, [], ◌<◌, None, Some, ◌∷◌, refl, true, ◌+◌, false, ◌≤◌, ◌^◌, map, sym, subst, suc, zero}
use Rattle.records.proofs.Common.{◌-◌, Row, Reason, Option, body_of, firsts, flat_map, get_or, is_none, number_of}
use Rattle.records.specs.Faults.{fault_at}
use Rattle.std.proofs.{Common.◌*◌, Common.◌/◌, Common.◌%◌, Common.ap₂, lemmas.Bool.or_left, lemmas.List.Elements.All-from_recursion}
use Rattle.std.specs.{Fmt.digits, List.list_any, List.range_with_len, Prelude.codes}
use Rattle.edge_files.specs.declared.files.InFile.TheVariants as file
use Rattle.learning.specs.declared.TheConstants.{LAST_ITERATION}
use Rattle.network.specs.{Links.link_of, Nodes.node_of}
use Rattle.plans.specs.{Kinds.kind_of, Values.number_in_table, Values.tables_of, Values.values_of}
use Rattle.plans.specs.declared.kinds.ElementKind.TheVariants as element
use Rattle.router.specs.{Graphs.Graph, Legs.route_between}
use Rattle.rows.specs.Joined.{ends_of}
use Rattle.rows.specs.declared.{network.LinkRow.LinkRow, plan.Act.Act, schedule.RouteRow.RouteRow, schedule.StopRow.StopRow}
use Rattle.scenario.{proofs.Free.AreFree, proofs.Free.AreFreeOn, proofs.Free.free_together, proofs.Told.both_none, specs.Faults.in_file}
use Rattle.scenario.specs.FilesToScenario.{NetworkRows, conflict_fault, cross_fault, free_arrivals, leg_checks_in, graph_between, network_fault}
use Rattle.scenario.specs.FilesToScenario.{network_rows_of, read_faults, persons_fault, scenario_fault, schedule_fault, schedule_rows_of, signals_file_fault}
use Rattle.scenario.specs.{FilesToScenario.signals_on, Legs.leg_reason_at, Legs.rows_cross_fault, Texts.Texts, declared.faults.ScenarioFault.ScenarioFault}
use Rattle.schedule.specs.{Routes.lines_of, Routes.lists_of, Routes.route_of, Routes.routes_of, Stops.stop_of}
use Rattle.town.specs.Fits.{are_joining, is_joining}
use Rattle.travel_times.specs.Times.{arrivals, free_times}
use Rattle.walks.specs.Arrivals.{Arrivals}
use Rattle.workload.specs.Commuters.{commuter, home_of, work_of, words_of}
use Rattle.workload.specs.{Links.grid_links, Rows.act_row, Rows.link_name, Rows.stop_name, Rows.stop_row, Rows.way_back, Rows.way_there}
use Rattle.workload.specs.Texts.{links_text, nodes_text, plans_text, routes_text, grid_texts}
use Rattle.workload.specs.declared.{TheConstants.PERSONS_PER_NODE, TheConstants.WORK_SECONDS, commuters.Commute.Commute, commuters.Commuter.Commuter}
use Rattle.draws.specs.Words.{word}
use Rattle.law_generated.proofs.CarRoutes.{car_found, grid_arrivals, grid_graph}
use Rattle.law_generated.proofs.Given.{departures_valid, ends_are, link_rows_are, links_are, links_valid, node_count, placed_are, plans_valid, route_row_is}
use Rattle.law_generated.proofs.{Given.routes_valid, Given.stops_are, Given.stops_valid, Legs.IsByBus, Legs.IsServed, Legs.act_passes, Legs.back_fits}
use Rattle.law_generated.proofs.{Legs.checks, Legs.home_row, Legs.leg_passes, Legs.there_fits, Legs.work_row, Nodes.nodes_pass, Plans.block, Plans.few_persons}
use Rattle.law_generated.proofs.{Plans.plans_file, Plans.row_count, Plans.row_of_person, Routes.calls_join, Routes.grid_line, Routes.line_row, Routes.place_of}
use Rattle.law_generated.proofs.{Routes.row_calls, Settings.settings_pass, Signals.no_clash, Signals.signals_pass, Stops.stop_number, Tables.no_fault}
use Rattle.law_generated.specs.Files.{link_ends, links_named, nodes_named, stops_named, stops_placed}

-- files of which no part has a fault have none
none_wrong : (T : Texts) → AreFree T → scenario_fault T ≡ None
unfolding network_fault
none_wrong T free =
    let on = free.others in
    free_together T free.settings (both_none _ _ free.nodes free.links)
    (All-from_recursion (λ (fault : Option ScenarioFault). fault ≡ None)
    (read_faults (network_rows_of T).link_names (ends_of (network_rows_of T).links) T) (on.persons, (on.schedule, (on.signals, tt))))
    on.legs on.conflicts

-- what nodes.csv and links.csv of a grid give
abbrev grid_network : ℕ → NetworkRows
grid_network size = record {
  node_names = nodes_named size;
  nodes = map node_of (body_of (nodes_text size));
  link_names = links_named size;
  links = map (link_of (nodes_named size)) (body_of (links_text size));
}

abbrev graph_with : ℕ → List (ℕ × ℕ) → Graph
graph_with nodes ends = record { nodes = nodes; ends = ends }

-- the stops of a grid, and where they lie
abbrev grid_places : ℕ → List StopRow
grid_places size = map (stop_of (map link_name (grid_links size))) (map stop_row (range_with_len 0 (size - 1)))

abbrev grid_stops : ℕ → List (List ℕ)
grid_stops size = map stop_name (range_with_len 0 (size - 1))

-- the routes of its one line
abbrev line_routes : ℕ → List RouteRow
line_routes size = routes_of (map link_name (grid_links size)) (grid_stops size) (grid_places size) (line_row (suc (size - 2)) ∷ [])

-- the lines and the routes that routes.csv of a grid gives
abbrev given_lines : ℕ → List (List ℕ)
given_lines size = lines_of (body_of (routes_text size))

abbrev given_routes : ℕ → List RouteRow
given_routes size = routes_of (links_named size) (stops_named size) (stops_placed size) (body_of (routes_text size))

-- the route that a car leg is given
abbrev searched : ℕ → Act → ℕ → Option (List ℕ)
searched size = route_between (graph_between (grid_network size)) (free_arrivals (grid_network size))

first_stop : stop_name 0 ≡ codes "s0"
unfolding digits
first_stop = refl

-- who goes by bus lives and works where the bus goes
by_bus : (size seed person : ℕ) → IsByBus size (commuter size (grid_links size) seed person)
unfolding commuter
by_bus size seed person is = (
  ap (λ (c : Commute). home_of (grid_links size) c (word (words_of seed person) 0)) is,
  ap (λ (c : Commute). work_of size (grid_links size) c (word (words_of seed person) 1)) is,
)

module _ (size : ℕ) (some : 3 ≤ size) (few : size ≤ 100) where
  -- THE LINE
  count_is : size - 1 ≡ suc (size - 2)
  count_is = omega (arith, some)

  -- one line goes by the name of the bus
  one_line : lines_of (line_row (suc (size - 2)) ∷ []) ≡ codes "bus" ∷ []
  unfolding firsts
  one_line = refl

  -- and its route calls at the first stop and later at the last one
  one_route : list_any (is_joining 0 0 (size - 2)) (line_routes size) ≡ true
  unfolding route_of lists_of firsts number_of
  one_route =
      let line = grid_line size some few (size - 2) count_is in
      let links : List (List ℕ) = map link_name (grid_links size) in
      let n = size - 2 in
      or_left (are_joining 0 n _) false
      (ap (are_joining 0 n) (row_calls n (place_of size some few) links (grid_links size) (grid_stops size) (grid_places size) line)
      ∙ calls_join n (place_of size some few) links (grid_links size) (grid_stops size) (grid_places size) line (omega (arith, some)))

  -- the line of a grid, on its links and at its stops
  grid_served : IsServed size (map link_name (grid_links size)) (codes "bus" ∷ []) (grid_stops size) (grid_places size) (line_routes size)
  unfolding number_of
  grid_served =
      let line = grid_line size some few (size - 2) count_is in
      let next : size - 2 + 1 ≡ size - 1 = omega (arith, some) in
      record {
        line = refl;
        first = ap (λ (name : List ℕ). number_of name (grid_stops size)) (sym first_stop)
            ∙ stop_number size some few 0 (omega (arith, some));
        last = stop_number size some few (size - 2) (omega (arith, some));
        begins = line.placed 0 (omega arith);
        ends = line.placed (size - 2) (omega arith)
            ∙ ap (λ (node : ℕ). number_in_table (link_name (size - 2, node)) (map link_name (grid_links size))) next;
        joined = one_route;
      }

  routes_are : given_routes size ≡ line_routes size
  routes_are =
      ap₂ (λ (links stops : List (List ℕ)). routes_of links stops (stops_placed size) (body_of (routes_text size)))
      (links_are size some few) (stops_are size some few)
      ∙ ap₂ (λ (places : List StopRow) (rows : List Row). routes_of (map link_name (grid_links size)) (grid_stops size) places rows)
      (placed_are size some few) (route_row_is size some few)

  -- the same by what the files give
  served : IsServed size (links_named size) (given_lines size) (stops_named size) (stops_placed size) (given_routes size)
  served =
      let lines_are = ap lines_of (route_row_is size some few) ∙ one_line in
      subst (λ (routes : List RouteRow). IsServed size (links_named size) (given_lines size) (stops_named size) (stops_placed size) routes)
      (sym routes_are)
      (subst (λ (places : List StopRow). IsServed size (links_named size) (given_lines size) (stops_named size) places (line_routes size))
      (sym (placed_are size some few))
      (subst (λ (stops : List (List ℕ)). IsServed size (links_named size) (given_lines size) stops (grid_places size) (line_routes size))
      (sym (stops_are size some few))
      (subst (λ (lines : List (List ℕ)). IsServed size (links_named size) lines (grid_stops size) (grid_places size) (line_routes size))
      (sym lines_are)
      (subst (λ (links : List (List ℕ)). IsServed size links (codes "bus" ∷ []) (grid_stops size) (grid_places size) (line_routes size))
      (sym (links_are size some few)) grid_served))))

  -- THE ROUTES OF CARS
  graph_is : graph_between (grid_network size) ≡ grid_graph size
  graph_is = ap₂ graph_with (node_count size some few) (ends_are size some few)

  arrivals_are : free_arrivals (grid_network size) ≡ grid_arrivals size
  arrivals_are = ap (λ (links : List LinkRow). arrivals (free_times links)) (link_rows_are size some few)

  found : (here : Act) (there : ℕ) → is_none (searched size here there) ≡ false
  found here there =
      ap₂ (λ (graph : Graph) (arrive : Arrivals). is_none (route_between graph arrive here there)) graph_is arrivals_are
      ∙ car_found size some few here there

  -- ALL LEGS
  module _ (seed : ℕ) where
    abbrev rows : List Row
    rows = flat_map (block size seed some few) (range_with_len 0 (PERSONS_PER_NODE * size * size))

    -- what speaks against a row of these
    abbrev speaks : ℕ → Option Reason
    speaks place =
        leg_reason_at
        (checks size some few (links_named size) (given_lines size) (stops_named size) (stops_placed size) (given_routes size) served
        (searched size) found rows)
        (tables_of (links_named size) rows) rows place

    row_is : (i j : ℕ) → i < PERSONS_PER_NODE * size * size → j < 5 → get_or rows (5 * i + j) [] ≡ get_or (block size seed some few i) j []
    row_is = row_of_person size seed some few []

    act_is : (person : ℕ) (kind : List ℕ) (link : ℕ × ℕ) (end : Option ℕ) → kind_of (act_row person kind link end) ≡ element.Act
    unfolding kind_of
    act_is person kind link end = refl

    -- the rows of a person
    module _ (i : ℕ) (less : i < PERSONS_PER_NODE * size * size) where
      abbrev who : Commuter
      who = commuter size (grid_links size) seed i

      home_passes : speaks (5 * i + 0) ≡ None
      home_passes =
          act_passes _ _ rows (5 * i + 0) (home_row i who) (row_is i 0 less (omega arith))
          (act_is i (codes "home") who.home (Some who.leaves))

      there_passes : speaks (5 * i + 1) ≡ None
      there_passes =
          let before : 5 * i + 1 - 1 ≡ 5 * i + 0 = omega arith in
          let after : 5 * i + 1 + 1 ≡ 5 * i + 2 = omega arith in
          leg_passes _ _ rows (5 * i + 1) (home_row i who) (way_there size i who.commute)
          (work_row i who)
          (ap (λ (n : ℕ). get_or rows n []) before ∙ row_is i 0 less (omega arith)) (row_is i 1 less (omega arith))
          (ap (λ (n : ℕ). get_or rows n []) after ∙ row_is i 2 less (omega arith))
          (there_fits size some few (links_named size) (given_lines size) (stops_named size) (stops_placed size)
          (given_routes size) served (searched size) found rows i
          (omega (arith, less, few_persons size seed some few)) who (by_bus size seed i) (5 * i + 1)
          (omega (arith, less, row_count size seed some few [])) (row_is i 1 less (omega arith)))

      work_passes : speaks (5 * i + 2) ≡ None
      work_passes =
          act_passes _ _ rows (5 * i + 2) (work_row i who) (row_is i 2 less (omega arith))
          (act_is i (codes "work") who.work (Some (who.leaves + WORK_SECONDS)))

      back_passes : speaks (5 * i + 3) ≡ None
      back_passes =
          let before : 5 * i + 3 - 1 ≡ 5 * i + 2 = omega arith in
          let after : 5 * i + 3 + 1 ≡ 5 * i + 4 = omega arith in
          let work : Row = work_row i who in
          let last : Row = act_row i (codes "home") who.home None in
          leg_passes _ _ rows (5 * i + 3) work (way_back i who.commute) last
          (ap (λ (n : ℕ). get_or rows n []) before ∙ row_is i 2 less (omega arith)) (row_is i 3 less (omega arith))
          (ap (λ (n : ℕ). get_or rows n []) after ∙ row_is i 4 less (omega arith))
          (back_fits size some few (links_named size) (given_lines size) (stops_named size) (stops_placed size)
          (given_routes size) served (searched size) found rows i who.commute work last)

      last_passes : speaks (5 * i + 4) ≡ None
      last_passes =
          act_passes _ _ rows (5 * i + 4) (act_row i (codes "home") who.home None) (row_is i 4 less (omega arith))
          (act_is i (codes "home") who.home None)

    by_row : (i j : ℕ) → i < PERSONS_PER_NODE * size * size → j < 5 → speaks (5 * i + j) ≡ None
    by_row i zero less small = home_passes i less
    by_row i (suc zero) less small = there_passes i less
    by_row i (suc (suc zero)) less small = work_passes i less
    by_row i (suc (suc (suc zero))) less small = back_passes i less
    by_row i (suc (suc (suc (suc zero)))) less small = last_passes i less
    by_row i (suc (suc (suc (suc (suc j))))) less small = absurd (omega (arith, small))

    none_speaks : (place : ℕ) → place < length rows → speaks place ≡ None
    none_speaks place less =
        let split : place ≡ 5 * (place / 5) + place % 5 = omega arith in
        ap speaks split ∙ by_row (place / 5) (place % 5) (omega (arith, less, row_count size seed some few [])) (omega arith)

  -- ALL FILES
  module _ (seed last : ℕ) where
    network_is : network_rows_of (grid_texts size seed last) ≡ grid_network size
    unfolding network_rows_of
    network_is = refl

    -- the legs fit the files behind plans.csv
    legs_fit : cross_fault (grid_network size) (plans_text size seed) (schedule_rows_of (links_named size) (grid_texts size seed last))
        ≡ None
    unfolding cross_fault leg_checks_in values_of schedule_rows_of rows_cross_fault
    legs_fit =
        ap (λ (rows : List Row). in_file file.Plans (rows_cross_fault
        (checks size some few (links_named size) (given_lines size) (stops_named size) (stops_placed size) (given_routes size) served
        (searched size) found rows)
        (tables_of (links_named size) rows) rows)) (plans_file size seed some few []).body
        ∙ ap (in_file file.Plans) (no_fault None (speaks seed) (length (rows seed)) refl (none_speaks seed))

    persons_pass : persons_fault (links_named size) (link_ends size) (grid_texts size seed last) ≡ None
    persons_pass = ap (in_file file.Plans) (plans_valid size some few seed)

    schedule_passes : schedule_fault (links_named size) (link_ends size) (grid_texts size seed last) ≡ None
    unfolding schedule_fault
    schedule_passes =
        both_none _ _ (ap (in_file file.Stops) (stops_valid size some few))
        (both_none _ _ (ap (in_file file.Routes) (routes_valid size some few))
        (ap (in_file file.Departures) (departures_valid size some few)))

    no_signals : signals_file_fault (links_named size) (link_ends size) (grid_texts size seed last) ≡ None
    no_signals = ap (in_file file.Signals) (signals_pass (links_named size) (link_ends size))

    no_conflict : conflict_fault (signals_on (links_named size) (grid_texts size seed last)) ≡ None
    unfolding conflict_fault
    no_conflict = ap (in_file file.Signals) (no_clash (links_named size))

    on_grid : AreFreeOn (grid_network size) (grid_texts size seed last)
    on_grid = record { persons = persons_pass; schedule = schedule_passes; signals = no_signals; legs = legs_fit; conflicts = no_conflict }

    -- the files of a grid have no fault
    pub scenario_valid : seed < 2 ^ 64 → last ≤ LAST_ITERATION → scenario_fault (grid_texts size seed last) ≡ None
    scenario_valid fits late =
        none_wrong (grid_texts size seed last) (record {
          settings = ap (λ (o : Option Reason). in_file file.Settings (fault_at 0 o)) (settings_pass seed last fits late);
          nodes = ap (in_file file.Nodes) (nodes_pass size (omega (arith, some)) few);
          links = ap (in_file file.Links) (links_valid size some few);
          others = subst (λ (network : NetworkRows). AreFreeOn network (grid_texts size seed last)) (sym network_is) on_grid;
        })
