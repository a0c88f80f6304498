-- The chosen route among those of least arrival: followed back from its end, by the link of the least number at each node.
use Rattle.std.specs.{List.range_with_len, Option.option_eq, Option.option_map_or}
use Rattle.std.specs.Prelude.{ℕ, zero, suc, Bool, false, ◌&&◌, nat_eq, List, [], ◌∷◌, ◌++◌, length, find, Option, Some, if◌then◌else◌}
use Rattle.walks.specs.{Arrivals.Arrivals, Rounds.Labels, Rounds.label_at, Walks.Ends, Walks.start_of, Walks.end_of}

-- the link ends at the node and begins at a labelled one, and the node is reached along it in the second of its label
abbrev pub leads : Ends → Arrivals → Labels → ℕ → ℕ → Bool
leads ends arrive labels node link =
    nat_eq (end_of ends link) node
    && option_map_or (λ left. option_eq nat_eq (Some (arrive link left)) (label_at labels node))
    (label_at labels (start_of ends link)) false

-- the link before a node: of those that lead there the one of the least number
unfoldable pub link_before : Ends → Arrivals → Labels → ℕ → Option ℕ
link_before ends arrive labels node = find (leads ends arrive labels node) (range_with_len 0 (length ends))

-- the links followed back from a node to the start node, at most so many
unfoldable pub followed : Ends → Arrivals → Labels → ℕ → ℕ → ℕ → List ℕ
followed ends arrive labels from zero node = []
followed ends arrive labels from (suc most) node =
    if nat_eq node from then []
    else option_map_or (λ link. followed ends arrive labels from most (start_of ends link) ++ link ∷ [])
    (link_before ends arrive labels node) []

-- the route to a node
abbrev pub chosen_route : ℕ → Ends → Arrivals → Labels → ℕ → ℕ → List ℕ
chosen_route nodes ends arrive labels from to = followed ends arrive labels from nodes to
