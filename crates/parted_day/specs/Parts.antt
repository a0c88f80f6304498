-- One partition of the day of a town.
use Rattle.std.specs.Prelude.{◌≡◌, ℕ, ◌-◌, ◌<◌, Bool, true, false, List, []}
use Rattle.events.specs.declared.event.Event.{Event}
use Rattle.town.specs.{Views.setup, declared.day_input.DayInput.DayInput}
use Rattle.partition.specs.{Owned.owner_in, declared.owner.Owner.Owner}
use Rattle.parts.specs.Parts.{held, own_events}
use Rattle.law_parcels.specs.Worlds.{world_held}
use Rattle.step_core.specs.Views.{PartView}
use Rattle.divided_day.specs.Days.{told_at}
use Rattle.part_seconds.specs.{Stands.AreaStands, declared.contents.Contents.Contents, declared.runs.Run.Run}
use Rattle.parted_day.specs.{Rest.AreAtRest, Strays.AreStrays, declared.part.TownPart.TownPart}

-- what a core sees of it
abbrev pub view_of : TownPart → PartView Contents
view_of x = record { number = x.number; seconds = x.done; inbox = x.inbox; outbox = x.outbox }

-- What p told in t seconds: all that belongs to it, or where events are taken as the day goes on what belongs to it of the last second.
pub record HasTold (streams : Bool) (day : DayInput) (owner : Owner) (p t : ℕ) (events : List Event) : Type 0 where
  pub all : streams ≡ false → events ≡ own_events (setup day) (owner_in owner.of_node) p t
  pub last : streams ≡ true → 0 < t → events ≡ told_at day owner p (t - 1)

-- It is one of the partitions of a run, after its seconds: it stands for what its partition holds by itself, nobody of it has anything to
-- do in the seconds that are known to be quiet, it has told what belongs to it, keeps who strays, and is not spent.
pub record IsPartOf (run : Run) (x : TownPart) : Type 0 where
  pub there : x.number < run.owner.now.parts
  pub stands :
      AreaStands run.day.now (owner_in run.owner.now.of_node) x.number x.done x.done x.done x.area
      (held (setup run.day.now) (owner_in run.owner.now.of_node) x.number x.done)
      (world_held (setup run.day.now) (owner_in run.owner.now.of_node) x.number x.done)
  pub quiet : AreAtRest x.done x.quiet_until x.area
  pub events : HasTold run.streams run.day.now run.owner.now x.number x.done x.told.events.items
  pub silent : x.told.said.items ≡ []
  pub stray : AreStrays (setup run.day.now) (owner_in run.owner.now.of_node) run.owner.now.parts x.number x.done x.strays.items
  pub whole : x.spent ≡ false
