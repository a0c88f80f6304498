-- How many nodes each partition gets, and which.
use Rattle.std.specs.Prelude.{◌≡◌, ℕ, ◌+◌, ◌-◌, ◌*◌, ◌/◌, ◌<◌, ◌≤◌, true, List, length, get_or, count_by, ◌==◌}
use Rattle.std.specs.List.{AllByRecursion as Each}
use Rattle.rows.specs.declared.network.NodeRow.{NodeRow}
use Rattle.partition.specs.{Axes.lies_before, Cuts.Cut, Cuts.nodes_before, Cuts.cuts, Owned.owner_in}

-- each node of the partitions below the middle of a cut comes before each of the others
abbrev pub IsCut : List NodeRow → List ℕ → Cut → Type 0
IsCut nodes of_node c =
    (a b : ℕ) → a < length nodes → b < length nodes → c.first ≤ owner_in of_node a → owner_in of_node a < c.middle
    → c.middle ≤ owner_in of_node b → owner_in of_node b < c.end → lies_before c.axis nodes a b ≡ true

-- These nodes are divided among so many partitions by halves.
pub record IsHalved (nodes : List NodeRow) (parts : ℕ) (of_node : List ℕ) : Type 0 where
  -- each node has a partition
  pub each : length of_node ≡ length nodes
  -- each partition has its share of the nodes
  pub shares : (p : ℕ) → p < parts
      → count_by (λ q. q == p) of_node ≡ nodes_before (length nodes) parts (p + 1) - nodes_before (length nodes) parts p
  -- and each cut parts them by where they lie
  pub sides : Each (IsCut nodes of_node) (cuts parts)

-- the partition of the node at place i of so many, where each partition has its share and they follow one another
abbrev pub partition_at : ℕ → ℕ → ℕ → ℕ
partition_at nodes parts i = ((i + 1) * parts - 1) / nodes

-- the nodes of an order have the partitions of their places
abbrev pub AreDealt : ℕ → List ℕ → List ℕ → Type 0
AreDealt parts order of_node = (i : ℕ) → i < length order → owner_in of_node (get_or order i 0) ≡ partition_at (length order) parts i
