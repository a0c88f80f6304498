-- A second in which nobody of a partition has anything to do.
use Rattle.std.specs.Prelude.{◌≡◌, ℕ, ◌+◌, ◌<◌, ◌≤◌, List, []}
use Rattle.town.specs.{Views.setup, declared.day_input.DayInput.DayInput}
use Rattle.law_in_range.specs.Setups.{HaveFittingPlans}
use Rattle.law_parcels.specs.Worlds.{world_held}
use Rattle.parts.specs.Parts.{held}
use Rattle.partition.specs.{Owned.owner_in, declared.owner.Owner.Owner}
use Rattle.step_core.specs.Views.{HasHeard, HasSent}
use Rattle.divided_day.specs.{Days.borders_in, Slots.AreSlots}
use Rattle.part_seconds.specs.{Parcels.nothing, Parcels.HasNothing, Resting.IsAtRest, Stands.AreaStands}
use Rattle.part_seconds.specs.declared.{area.Area.Area, contents.Contents.Contents}
use Rattle.parted_day.specs.{Absorbed.IsRight, Strays.AreStrays, Turns.turns_told, declared.straying.Stray.Stray}

-- in no second from this one on before the other one has anybody of a part anything to do
abbrev pub AreAtRest : ℕ → ℕ → Area → Type 0
AreAtRest from until A = (u : ℕ) → from ≤ u → u < until → IsAtRest u A

-- Second t changes nothing of the part of p: as it is, the part stands for what p holds then. The turns of the second tell nothing, each
-- neighbour gets a parcel with nothing in it, and nobody more strays.
pub record ChangesNothing (day : DayInput) (owner : Owner) (p t : ℕ) (A : Area) : Type 0 where
  pub stands :
      AreaStands day (owner_in owner.of_node) p (t + 1) (t + 1) (t + 1) A (held (setup day) (owner_in owner.of_node) p (t + 1))
      (world_held (setup day) (owner_in owner.of_node) p (t + 1))
  pub told : turns_told (setup day) (owner_in owner.of_node) p t ≡ []
  pub sent :
      (parcels : List Contents) → HasNothing parcels
      → HasSent nothing (IsRight (setup day) (owner_in owner.of_node)) p t (borders_in day owner p) parcels
  pub strays :
      (strays : List Stray) → AreStrays (setup day) (owner_in owner.of_node) owner.parts p t strays
      → AreStrays (setup day) (owner_in owner.of_node) owner.parts p (t + 1) strays

-- That is so of each second of a day before which no neighbour sent anything, and in which nobody of p has anything to do.
abbrev pub RestIsNothing : Type 0
RestIsNothing =
    (day : DayInput) (owner : Owner) (p t : ℕ) (slots : List ℕ) (A : Area) (inbox : List Contents) → HaveFittingPlans day
    → AreSlots (setup day) (owner_in owner.of_node) slots → t < day.town.now.settings.end_second
    → AreaStands day (owner_in owner.of_node) p t t t A (held (setup day) (owner_in owner.of_node) p t)
    (world_held (setup day) (owner_in owner.of_node) p t)
    → HasHeard nothing (IsRight (setup day) (owner_in owner.of_node)) p t (borders_in day owner p) inbox → HasNothing inbox → IsAtRest t A
    → ChangesNothing day owner p t A
