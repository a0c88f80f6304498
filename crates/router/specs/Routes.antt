-- The route of a car leg.
use Rattle.std.specs.Prelude.{ℕ, List, [], ◌∷◌, ◌++◌, length, nat_eq, nat_le, Option, None, Some, if◌then◌else◌}
use Rattle.std.specs.Option.{option_map}
use Rattle.limits.specs.declared.TheConstants.{MAX_ROUTE_LINKS}
use Rattle.walks.specs.{Arrivals.Arrivals, Chosen.chosen_route, Rounds.label_at, Rounds.least_labels, Walks.start_of, Walks.end_of}
use Rattle.router.specs.Graphs.{Graph}

-- the chosen route from a node, left in a second, to another node, or none where no walk leads there
unfoldable pub way_to : Graph → Arrivals → ℕ → ℕ → ℕ → Option (List ℕ)
way_to graph arrive from second to =
    option_map (λ at. chosen_route graph.nodes graph.ends arrive (least_labels graph.nodes graph.ends arrive from second) from to)
    (label_at (least_labels graph.nodes graph.ends arrive from second) to)

-- from a link to itself a leg has this link alone; to another it has the first, the chosen route from its end to the start of the other,
-- and the other, or no route where no walk leads there
unfoldable pub leg_route : Graph → Arrivals → ℕ → ℕ → ℕ → Option (List ℕ)
leg_route graph arrive second here there =
    if nat_eq here there then Some (here ∷ [])
    else option_map (λ way. here ∷ way ++ there ∷ []) (way_to graph arrive (end_of graph.ends here) second (start_of graph.ends there))

-- a route of more links than a leg may have counts as none
abbrev pub allowed : Option (List ℕ) → Option (List ℕ)
allowed None = None
allowed (Some route) = if nat_le (length route) MAX_ROUTE_LINKS then Some route else None
