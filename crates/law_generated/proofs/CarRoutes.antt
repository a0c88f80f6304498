-- The car legs of a grid have routes: at free speed all its links take as long, and a way of few links joins any two nodes.
use Rattle.std.proofs.Common.{◌≡◌, ◌∙◌, ◌<◌, ◌≤◌, ◌+◌, ◌*◌, ℕ, zero, suc, max, arith, ap, refl, true, false, List, [], ◌∷◌, length, map, Option, None, Some}
use Rattle.std.{proofs.lemmas.List.Elements.All-from_recursion, specs.List.AllByRecursion as Each}
use Rattle.std.specs.Prelude.{get_or, is_none, is_some, unwrap_or}
use Rattle.fixed_flow.specs.Link.{free_seconds}
use Rattle.rows.specs.declared.{network.LinkRow.LinkRow, plan.Act.Act}
use Rattle.router.specs.{Graphs.Graph, Legs.route_between, Routes.allowed, Routes.leg_route}
use Rattle.travel_times.{proofs.Arriving.arrivals_are_fifo, proofs.Free.free_arrival, specs.Times.arrivals, specs.Times.free_times, specs.Times.profile_at}
use Rattle.walks.specs.{Arrivals.Arrivals, Walks.AreWithin, Walks.end_of, Walks.start_of}
use Rattle.workload.specs.Links.{grid_links}
use Rattle.law_generated.proofs.Grid.{IsLink, each_link, each_weaker, square_some}
use Rattle.law_generated.proofs.{Links.grid_link, Steps.grid_between, Ways.leg_routed, Ways.short_route}

-- the graph of a grid, and when the end of each of its links is reached at its free speed
abbrev pub grid_graph : ℕ → Graph
grid_graph size = record { nodes = size * size; ends = grid_links size }

abbrev pub grid_rows : ℕ → List LinkRow
grid_rows size = map grid_link (grid_links size)

abbrev pub grid_arrivals : ℕ → Arrivals
grid_arrivals size = arrivals (free_times (grid_rows size))

-- both ends of a link are among so many nodes
abbrev IsInside : ℕ → ℕ × ℕ → Type 0
IsInside nodes link = (link.0 < nodes) × (link.1 < nodes)

-- also where there is no such link
end_inside : (nodes : ℕ) (links : List (ℕ × ℕ)) (link : ℕ) → 0 < nodes → Each (IsInside nodes) links
    → IsInside nodes (get_or links link (0, 0))
end_inside nodes [] link some all = (some, some)
end_inside nodes (x ∷ xs) zero some all = all.0
end_inside nodes (x ∷ xs) (suc link) some all = end_inside nodes xs link some all.1

-- 300 m at 13.89 m/s
free_is : (links : List (ℕ × ℕ)) (link : ℕ) → link < length links → (profile_at (free_times (map grid_link links)) link).free ≡ 21
unfolding free_seconds
free_is [] link less = absurd (omega (arith, less))
free_is (x ∷ xs) zero less = refl
free_is (x ∷ xs) (suc link) less = free_is xs link (omega (arith, less))

module _ (size : ℕ) (some : 3 ≤ size) (few : size ≤ 100) where
  alike : (link second : ℕ) → link < length (grid_links size) → grid_arrivals size link second ≡ second + 21
  alike link second less =
      free_arrival (grid_rows size) link second ∙ ap (λ (n : ℕ). second + max 1 n) (free_is (grid_links size) link less)

  each_inside : Each (IsInside (size * size)) (grid_links size)
  each_inside =
      each_weaker (IsLink size) (IsInside (size * size)) (λ link is. (is.from, is.to)) (grid_links size)
      (each_link size (omega (arith, some)))

  inside : AreWithin (size * size) (grid_links size)
  inside = All-from_recursion (IsInside (size * size)) (grid_links size) each_inside

  nodes_some : 0 < size * size
  nodes_some = square_some size (omega (arith, some))

  pub car_routed : (second here there : ℕ) → is_some (allowed (leg_route (grid_graph size) (grid_arrivals size) second here there)) ≡ true
  car_routed second here there =
      let from = end_of (grid_links size) here in
      let to = start_of (grid_links size) there in
      let begins = (end_inside (size * size) (grid_links size) here nodes_some each_inside).1 in
      let ends = (end_inside (size * size) (grid_links size) there nodes_some each_inside).0 in
      let way = grid_between size (omega (arith, some)) from to begins ends in
      let fifo = arrivals_are_fifo (free_times (grid_rows size)) in
      let short = short_route (size * size) (grid_links size) (grid_arrivals size) fifo inside 21 (omega arith)
      alike second from to way.count begins way.way in
      leg_routed (grid_graph size) (grid_arrivals size) second here there short.0 (omega (arith, short.1, way.few, few))

  -- a route is found between any two activities
  pub car_found : (here : Act) (there : ℕ) → is_none (route_between (grid_graph size) (grid_arrivals size) here there) ≡ false
  car_found here there =
      not_missing (route_between (grid_graph size) (grid_arrivals size) here there) (car_routed (unwrap_or here.end 0) here.link there)
    where
      not_missing : (o : Option (List ℕ)) → is_some o ≡ true → is_none o ≡ false
      not_missing None h = absurd (cc h)
      not_missing (Some route) h = refl
