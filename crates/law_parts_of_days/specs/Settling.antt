-- What the turns of links mean for the places of links, and for when nodes are woken, where links stand in slots.
use Rattle.std.specs.Prelude.{ℕ, ◌+◌, Bool, List, [], ◌∷◌, ◌&&◌, length, set, nat_lt, if◌then◌else◌, Option, Some}
use Rattle.traffic.specs.Setup.{Setup, link_row}
use Rattle.parts.specs.Owners.{Owner}
use Rattle.queue_link.specs.Links.{LinkView}
use Rattle.node_seconds.specs.Networks.{lane}
use Rattle.part_places.specs.Taking.{begins_here}

-- the number of the link in a slot, and how many vehicles are in its queue and in its buffer
abbrev pub link_at : List LinkView → ℕ → ℕ
link_at links k = (lane links k).numbers.link

abbrev pub queued_in : List LinkView → ℕ → ℕ
queued_in links k = length (lane links k).lists.queue

abbrev pub buffered_in : List LinkView → ℕ → ℕ
buffered_in links k = length (lane links k).lists.buffer

-- the node at the end of the link in a slot is woken in the second after t, where somebody is in the link's buffer
abbrev pub wake_end : Setup → ℕ → List LinkView → ℕ → List (Option ℕ) → List (Option ℕ)
wake_end S t links k wakes =
    if nat_lt 0 (buffered_in links k) then set wakes (link_row S (link_at links k)).to (Some (t + 1)) else wakes

-- so with those in these slots
unfoldable pub wake_ends : Setup → ℕ → List LinkView → List ℕ → List (Option ℕ) → List (Option ℕ)
wake_ends S t links [] wakes = wakes
wake_ends S t links (k ∷ ks) wakes = wake_ends S t links ks (wake_end S t links k wakes)

-- whether a link is there and begins in p
abbrev pub is_own_start : Setup → Owner → ℕ → ℕ → Bool
is_own_start S own p m = nat_lt m (length S.links) && begins_here S own p m

-- the node at the start of such a link is woken in second t
abbrev pub wake_start : Setup → Owner → ℕ → ℕ → ℕ → List (Option ℕ) → List (Option ℕ)
wake_start S own p t m wakes = if is_own_start S own p m then set wakes (link_row S m).from (Some t) else wakes

-- so with each of these links
unfoldable pub wake_starts : Setup → Owner → ℕ → ℕ → List ℕ → List (Option ℕ) → List (Option ℕ)
wake_starts S own p t [] wakes = wakes
wake_starts S own p t (m ∷ ms) wakes = wake_starts S own p t ms (wake_start S own p t m wakes)
