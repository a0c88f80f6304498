-- A town that is divided among partitions.
use Rattle.std.specs.Prelude.{◌≡◌, ℕ, ◌<◌, List, [], length, get_or}
use Rattle.town.specs.{Views.setup, declared.day_input.DayInput.DayInput}
use Rattle.partition.specs.{Halves.IsHalved, Homes.homes_of, Owned.owner_in, declared.owner.Owner.Owner}
use Rattle.step_core.specs.declared.part.Border.{Border}
use Rattle.divided_day.specs.{Days.borders_in, Slots.AreSlots, Slots.my_starts, declared.dividing.Division.Division}
use Rattle.law_partitions.specs.Alone.{my_links}

-- these lists have the neighbours of each partition, by number
pub record AreBordersOf (day : DayInput) (owner : Owner) (lists : List (List Border)) : Type 0 where
  pub many : length lists ≡ owner.parts
  pub each : (p : ℕ) → p < owner.parts → get_or lists p [] ≡ borders_in day owner p

-- The town of a day is divided among so many partitions: its nodes by halves, and each partition has its neighbours, slots for its links, and
-- lists of the links that end and that begin there; one that there is not has none. Of each person it is known where the day begins.
pub record IsDivided (day : DayInput) (count : ℕ) (division : Division) : Type 0 where
  pub parts : division.owner.parts ≡ count
  pub halved : IsHalved day.town.now.network.nodes count division.owner.of_node
  pub borders : AreBordersOf day division.owner division.borders.items
  pub slots : AreSlots (setup day) (owner_in division.owner.of_node) division.link_slots.items
  pub ends : (p : ℕ) → get_or division.ends.items p [] ≡ my_links (setup day) (owner_in division.owner.of_node) p
  pub starts : (p : ℕ) → get_or division.starts.items p [] ≡ my_starts (setup day) (owner_in division.owner.of_node) p
  pub homes : division.homes.items ≡ homes_of (setup day) (owner_in division.owner.of_node)
