-- In which slots the links of a network stand that is divided among partitions: each in the partition where it ends.
use Rattle.std.specs.Prelude.{◌≡◌, ℕ, ◌<◌, List, length, filter, get_or, ◌==◌}
use Rattle.traffic.specs.{Lists.below, Setup.Setup}
use Rattle.parts.specs.Owners.{Owner, begins_in}
use Rattle.law_partitions.specs.Alone.{my_links}

-- the link in a slot of partition p, and how many slots it has: its own links by number
abbrev pub link_in : Setup → Owner → ℕ → ℕ → ℕ
link_in S own p k = get_or (my_links S own p) k 0

abbrev pub slot_count : Setup → Owner → ℕ → ℕ
slot_count S own p = length (my_links S own p)

-- the slot of each link, in the partition where it ends
pub record AreSlots (S : Setup) (own : Owner) (slots : List ℕ) : Type 0 where
  pub many : length slots ≡ length S.links
  pub each : (p k : ℕ) → k < slot_count S own p → get_or slots (link_in S own p k) 0 ≡ k

-- the links that begin in partition p, by number
abbrev pub my_starts : Setup → Owner → ℕ → List ℕ
my_starts S own p = filter (λ l. begins_in S own l == p) (below (length S.links))
