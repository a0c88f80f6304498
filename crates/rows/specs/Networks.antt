-- What a network keeps of its links.
use Rattle.std.specs.Prelude.{ℕ, ◌≤◌, Bool, ◌&&◌, nat_lt, nat_le, nat_eq, List, count_by}
use Rattle.limits.specs.declared.TheConstants.{MAX_CAPACITY, MAX_LANES, MAX_LENGTH, MAX_SPEED}
use Rattle.rows.specs.declared.network.LinkRow.{LinkRow}

-- a number from low to high
abbrev pub is_from_to : ℕ → ℕ → ℕ → Bool
is_from_to low high n = nat_le low n && nat_le n high

-- the numbers are in their ranges
unfoldable pub are_measures : ℕ → ℕ → ℕ → ℕ → Bool
are_measures length speed capacity lanes = is_from_to 1 MAX_LENGTH length && is_from_to 1 MAX_SPEED speed && is_from_to 1 MAX_CAPACITY capacity && is_from_to 1 MAX_LANES lanes

-- so for the row of a link, each range by itself
pub record IsMeasured (link : LinkRow) : Type 0 where
  pub some_length : 1 ≤ link.length
  pub most_length : link.length ≤ MAX_LENGTH
  pub some_speed : 1 ≤ link.speed
  pub some_capacity : 1 ≤ link.capacity
  pub most_capacity : link.capacity ≤ MAX_CAPACITY
  pub most_lanes : link.lanes ≤ MAX_LANES

-- the link begins and ends at one of so many nodes, and its numbers are in their ranges
unfoldable pub is_link : ℕ → LinkRow → Bool
is_link nodes link =
    nat_lt link.from nodes && nat_lt link.to nodes && are_measures link.length link.speed link.capacity link.lanes

-- how many links end at a node
unfoldable pub in_links : List LinkRow → ℕ → ℕ
in_links links node = count_by (λ link. nat_eq link.to node) links
