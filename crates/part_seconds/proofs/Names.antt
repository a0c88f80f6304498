-- The short names by which proofs speak of a partition in a second of a day.
use Rattle.traffic.proofs.Common.{ℕ, Setup, World}
use Rattle.town.specs.{Views.setup, declared.day_input.DayInput.DayInput}
use Rattle.parts.specs.{Owners.Owner, Parts.Held, Parts.held, Parts.ready}
use Rattle.law_own_worlds.specs.Days.{world_before}
use Rattle.law_own_seconds.specs.Seconds.{held_early, held_crossed, held_driven, world_early, world_crossed, world_driven}
use Rattle.law_parcels.specs.Worlds.{world_held}
use Rattle.divided_day.specs.Slots.{link_in, slot_count}

-- The town, the second in which its day ends, which link is in a slot of the partition, and how many slots there are. What it holds, and
-- its own world by that: before parcels come in, once it is ready, once persons and departures have set out, once its nodes have moved, and
-- once its links have.
pub record InSecond : Type 0 where
  pub S : Setup
  pub end : ℕ
  pub num : ℕ → ℕ
  pub size : ℕ
  pub K : Held
  pub H : Held
  pub E : Held
  pub G : Held
  pub B : Held
  pub V1 : World
  pub V2 : World
  pub V3 : World
  pub V4 : World
  pub V5 : World

abbrev pub in_second : DayInput → Owner → ℕ → ℕ → InSecond
in_second day own p t = record {
  S = setup day;
  end = day.town.now.settings.end_second;
  num = link_in (setup day) own p;
  size = slot_count (setup day) own p;
  K = held (setup day) own p t;
  H = ready (setup day) own p t;
  E = held_early (setup day) own p t;
  G = held_crossed (setup day) own p t;
  B = held_driven (setup day) own p t;
  V1 = world_held (setup day) own p t;
  V2 = world_before (setup day) own p t;
  V3 = world_early (setup day) own p t;
  V4 = world_crossed (setup day) own p t;
  V5 = world_driven (setup day) own p t;
}
