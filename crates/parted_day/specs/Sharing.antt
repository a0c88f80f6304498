-- What the partitions of a day share.
use Rattle.town.specs.{Views.setup, declared.day_input.DayInput.DayInput}
use Rattle.divided_day.specs.Divisions.{IsDivided}
use Rattle.part_nodes.specs.Steady.{AreSteady}
use Rattle.part_seconds.specs.Slots.{AreSlotsInto}
use Rattle.parted_day.specs.declared.runs.Shared.{Shared}

-- these are a division of its town, the slots of the links into each node by it, and which links are always green
pub record IsShared (day : DayInput) (shared : Shared) : Type 0 where
  pub divided : IsDivided day shared.division.owner.parts shared.division
  pub into : AreSlotsInto (setup day) shared.division.link_slots.items shared.in_links
  pub are_steady : AreSteady day.town.now.greens shared.steady
