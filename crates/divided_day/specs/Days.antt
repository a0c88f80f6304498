-- A day of a town whose nodes are divided among partitions, as a core sees it.
use Rattle.std.specs.Prelude.{ℕ, List, filter, ◌==◌}
use Rattle.events.specs.declared.event.Event.{Event}
use Rattle.town.specs.{Views.setup, declared.day_input.DayInput.DayInput}
use Rattle.traffic.specs.Day.{second_events, world_at}
use Rattle.parts.specs.{Owners.owner_of_event, Parts.own_end_events}
use Rattle.law_partitions.specs.Whole.{all_told}
use Rattle.law_steps.specs.Steps.{net_of}
use Rattle.partition.specs.{Owned.owner_in, declared.owner.Owner.Owner}
use Rattle.step_core.specs.{Nets.Net, declared.part.Border.Border}
use Rattle.divided_day.specs.Borders.{borders_of}

-- its partitions, of which each has all seconds of the day to do
abbrev pub net_in : DayInput → Owner → Net
net_in day owner = net_of (setup day) (owner_in owner.of_node) owner.parts day.town.now.settings.end_second

-- the neighbours of one of them, ascending
abbrev pub borders_in : DayInput → Owner → ℕ → List Border
borders_in day owner p = borders_of (setup day) (owner_in owner.of_node) owner.parts p

-- the events of one of its seconds, and of its end, that belong to it
abbrev pub told_at : DayInput → Owner → ℕ → ℕ → List Event
told_at day owner p t =
    let S = setup day in
    let own = owner_in owner.of_node in
    filter (λ (e : Event). owner_of_event S own e == p) (second_events S t (world_at S t))

abbrev pub end_told_in : DayInput → Owner → ℕ → List Event
end_told_in day owner p = own_end_events (setup day) (owner_in owner.of_node) owner.parts p

-- all events of the day that belong to it
abbrev pub told_in : DayInput → Owner → ℕ → List Event
told_in day owner p = all_told (setup day) (owner_in owner.of_node) owner.parts p
