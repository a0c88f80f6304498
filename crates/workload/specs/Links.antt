-- The links of a grid. Node r * size + c is that of row r and column c.
use Rattle.std.specs.Prelude.{ℕ, ◌+◌, ◌-◌, ◌*◌, ◌/◌, ◌%◌, Bool, nat_lt, List, [], ◌∷◌, ◌++◌, if◌then◌else◌}
use Rattle.std.specs.List.{flat_map, range_with_len}

-- a link from one node to another, where the other is there
abbrev pub link_if : Bool → ℕ → ℕ → List (ℕ × ℕ)
link_if there from to = if there then (from, to) ∷ [] else []

-- the links that begin at a node, each by the nodes that it joins: to the node in the next column, to the one in the column before, to the
-- one in the next row and to the one in the row before, as far as these are there
unfoldable pub links_from : ℕ → ℕ → List (ℕ × ℕ)
links_from size node =
    link_if (nat_lt (node % size + 1) size) node (node + 1)
    ++ link_if (nat_lt 0 (node % size)) node (node - 1)
    ++ link_if (nat_lt (node / size + 1) size) node (node + size)
    ++ link_if (nat_lt 0 (node / size)) node (node - size)

-- all links, by the numbers of the nodes where they begin
unfoldable pub grid_links : ℕ → List (ℕ × ℕ)
grid_links size = flat_map (links_from size) (range_with_len 0 (size * size))
