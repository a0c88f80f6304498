-- What a partition has of a network whose links stand in slots, each in the partition where it ends.
use Rattle.std.specs.Prelude.{◌≡◌, ℕ, ◌<◌, List, [], length, get_or, ◌==◌}
use Rattle.traffic.specs.{Setup.Setup, Setup.into, declared.world.Row.Row}
use Rattle.parts.specs.Owners.{Owner}
use Rattle.divided_day.specs.Slots.{link_in, slot_count}
use Rattle.part_nodes.specs.{InLinks.slots_of, Phase.Extent}

-- so it has its nodes, and these links in so many slots
abbrev pub extent_of : Setup → Owner → ℕ → Extent
extent_of S own p = record { mine = λ n. own n == p; number = link_in S own p; size = slot_count S own p }

-- of each node the slots of the links into it, by link
pub record AreSlotsInto (S : Setup) (slots : List ℕ) (in_links : List (List ℕ)) : Type 0 where
  pub nodes : length in_links ≡ S.nodes
  pub each : (n : ℕ) → n < S.nodes → get_or in_links n [] ≡ slots_of slots (into S n)

-- a row with the slot of its link in the place of the link
abbrev pub in_slot : List ℕ → Row → Row
in_slot slots r = record r { link = get_or slots r.link 0 }
