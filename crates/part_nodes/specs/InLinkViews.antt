-- What contracts see of the links into nodes.
use Rattle.std.specs.Prelude.{ℕ, List, map}
use Rattle.smallvec.specs.SmallVec.{SmallVec}
use Rattle.part_nodes.specs.declared.in_link_rows.InLinks.TheInside.{Inside}

-- the numbers of a row
abbrev pub numbers_in : SmallVec ℕ → List ℕ
numbers_in row = row.items

abbrev pub in_links_view : Inside → List (List ℕ)
in_links_view d = map numbers_in d.rows.items
