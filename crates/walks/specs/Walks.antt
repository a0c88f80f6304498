-- Walks along links, and when they arrive. Links and nodes are numbered from 0.
use Rattle.std.specs.Prelude.{◌≡◌, ℕ, ◌<◌, ◌≤◌, List, [], ◌∷◌, length, All, slice_index_or}
use Rattle.walks.specs.Arrivals.{Arrivals}

-- the nodes where each link begins and ends, by the link's number
abbrev pub Ends : Type 0
Ends = List (ℕ × ℕ)

-- the node where a link begins
abbrev pub start_of : Ends → ℕ → ℕ
start_of ends link = (slice_index_or ends link (0, 0)).0

-- the node where a link ends
abbrev pub end_of : Ends → ℕ → ℕ
end_of ends link = (slice_index_or ends link (0, 0)).1

-- every link begins and ends at one of so many nodes
abbrev pub AreWithin : ℕ → Ends → Type 0
AreWithin nodes ends = All (λ link. (link.0 < nodes) × (link.1 < nodes)) ends

-- the links lead from the one node to the other: each begins where the one before it ends
abbrev pub IsWalk : Ends → ℕ → List ℕ → ℕ → Type 0
IsWalk ends from [] to = from ≡ to
IsWalk ends from (link ∷ links) to = (link < length ends) × (start_of ends link ≡ from) × IsWalk ends (end_of ends link) links to

-- no walk joins the nodes
abbrev pub NoWalk : Ends → ℕ → ℕ → Type 0
NoWalk ends from to = (links : List ℕ) → IsWalk ends from links to → ⊥

-- the second of arrival at the end of a walk that begins in this second: each link is entered where the one before it is left
abbrev pub arrival : Arrivals → ℕ → List ℕ → ℕ
arrival arrive second [] = second
arrival arrive second (link ∷ links) = arrival arrive (arrive link second) links

-- a walk arrives in that second
abbrev pub Reached : Ends → Arrivals → ℕ → ℕ → ℕ → ℕ → Type 0
Reached ends arrive from second to at = (links : List ℕ) × IsWalk ends from links to × (arrival arrive second links ≡ at)

-- the least arrival: a walk arrives in this second, and none arrives earlier
pub record IsLeast (ends : List (ℕ × ℕ)) (arrive : ℕ → ℕ → ℕ) (from second to least : ℕ) : Type 0 where
  pub reached : Reached ends arrive from second to least
  pub none_earlier : (links : List ℕ) → IsWalk ends from links to → least ≤ arrival arrive second links
