-- Spans of seconds, and what partitions tell in them.
use Rattle.std.specs.Prelude.{◌≡◌, ℕ, ◌*◌, ◌<◌, ◌≤◌, List, filter, ◌==◌}
use Rattle.events.specs.declared.event.Event.{Event}
use Rattle.town.specs.{Views.setup, declared.day_input.DayInput.DayInput}
use Rattle.parts.specs.Owners.{owner_of_event}
use Rattle.partition.specs.{Owned.owner_in, declared.owner.Owner.Owner}
use Rattle.step_core.specs.{Nets.Net, Views.PartView, declared.part.Border.Border}
use Rattle.streamed_day.specs.Coming.{seconds_from}
use Rattle.traffic.specs.{Day.end_events, Day.world_at, Setup.Setup}
use Rattle.workers.specs.{Running.IsRunning, declared.days.Running.Running}
use Rattle.collected_day.specs.declared.spans.TheConstants.{SPAN_SECONDS}

-- the events of n seconds from second t on that belong to partition p
abbrev pub told_from : DayInput → Owner → ℕ → ℕ → ℕ → List Event
told_from day owner p t n =
    let S = setup day in
    let own = owner_in owner.of_node in
    filter (λ (e : Event). owner_of_event S own e == p) (seconds_from S t n)

-- what is told of the end of a day of so many seconds
abbrev pub told_at_end : Setup → ℕ → List Event
told_at_end S end = end_events S end (world_at S end)

-- partitions that have all done t seconds, whole spans or the whole day
pub record IsUnderWay {T R P : Type 0} (net : R → Net) (borders : R → ℕ → List Border) (nothing : P) (see : T → PartView P)
    (stands : R → T → Type 0) (spent : T → Type 0) (right : R → ℕ → ℕ → ℕ → P → Type 0) (run : R) (t : ℕ)
    (x : Running T R P) : Type 0 where
  pub running : IsRunning net borders nothing see stands spent right run t x
  pub within : t ≤ (net run).end
  pub whole : t < (net run).end → (spans : ℕ) × (t ≡ spans * SPAN_SECONDS)
