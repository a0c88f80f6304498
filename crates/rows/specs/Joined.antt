-- Routes over links, by where each link begins and where it ends.
use Rattle.std.specs.Prelude.{ℕ, Bool, true, ◌&&◌, nat_eq, List, [], ◌∷◌, map, get_or}
use Rattle.rows.specs.declared.network.LinkRow.{LinkRow}

-- where a link begins and where it ends
abbrev pub ends_of_link : LinkRow → ℕ × ℕ
ends_of_link l = (l.from, l.to)

-- the same of all links
unfoldable pub ends_of : List LinkRow → List (ℕ × ℕ)
ends_of links = map ends_of_link links

-- each link begins where the one before it ends
unfoldable pub is_joined : List (ℕ × ℕ) → List ℕ → Bool
is_joined ends [] = true
is_joined ends (link ∷ []) = true
is_joined ends (link ∷ next ∷ route) = nat_eq (get_or ends link (0, 0)).1 (get_or ends next (0, 0)).0 && is_joined ends (next ∷ route)
