-- The least arrivals at all nodes, found by rounds: after k rounds those of walks of at most k links.
use Rattle.std.specs.{List.enumerate_from, List.range_with_len, Option.option_map, Prelude.ℕ, Prelude.◌≤◌, Prelude.zero, Prelude.suc}
use Rattle.std.specs.Prelude.{nat_eq, nat_lt, Bool, false, count_by, IsSomeAnd, List, map, filter, fold, slice_index_or, Option, None, Some, if◌then◌else◌}
use Rattle.walks.specs.{Arrivals.Arrivals, Walks.Ends}
use Rattle.calendar.specs.Waking.{earliest}

-- a label for each node: a second in which the node is reached, or none
abbrev pub Labels : Type 0
Labels = List (Option ℕ)

-- the label of a node
abbrev pub label_at : Labels → ℕ → Option ℕ
label_at labels node = slice_index_or labels node None

-- the label is that second or an earlier one
abbrev pub IsBy : Option ℕ → ℕ → Type 0
IsBy label second = IsSomeAnd label (λ reached. reached ≤ second)

-- there is a label, and it is earlier
abbrev pub is_before : ℕ → Option ℕ → Bool
is_before second None = false
is_before second (Some label) = nat_lt label second

-- how many nodes have a label that is earlier
unfoldable pub rank : Labels → ℕ → ℕ
rank labels second = count_by (is_before second) labels

-- when the end of a link is reached that is entered in the second of its start's label
abbrev pub along : Arrivals → Labels → ℕ × (ℕ × ℕ) → Option ℕ
along arrive labels link = option_map (arrive link.0) (label_at labels link.1.0)

-- the links into a node, each with its number
abbrev pub links_into : Ends → ℕ → List (ℕ × (ℕ × ℕ))
links_into ends node = filter (λ link. nat_eq link.1.1 node) (enumerate_from 0 ends)

-- before the first round only the start node has a label, the second of the start
unfoldable pub start_labels : ℕ → ℕ → ℕ → Labels
start_labels nodes from second = map (λ node. if nat_eq node from then Some second else None) (range_with_len 0 nodes)

-- the label of a node after one more round: the earliest of its own and of those along the links into it
unfoldable pub relabelled : Ends → Arrivals → Labels → ℕ → Option ℕ
relabelled ends arrive labels node = fold earliest (label_at labels node) (map (along arrive labels) (links_into ends node))

-- the labels after so many rounds
unfoldable pub labels_after : ℕ → ℕ → Ends → Arrivals → ℕ → ℕ → Labels
labels_after zero nodes ends arrive from second = start_labels nodes from second
labels_after (suc rounds) nodes ends arrive from second =
    map (relabelled ends arrive (labels_after rounds nodes ends arrive from second)) (range_with_len 0 nodes)

-- the least arrivals: the labels after as many rounds as there are nodes
abbrev pub least_labels : ℕ → Ends → Arrivals → ℕ → ℕ → Labels
least_labels nodes ends arrive from second = labels_after nodes nodes ends arrive from second
