use Rattle.std.proofs.Common.{◌≡◌, ◌++◌, List, take}
use Rattle.events.specs.declared.event.Event.{Event}
use Rattle.travel_times.specs.{Known.Knows, Known.links_of, Tallies.IsPiece}
use Rattle.travel_times.proofs.observations.Observations.take.Given as goal

abbrev pub invariant-loop-event : goal.invariant-loop-event
invariant-loop-event l = record {
  known : (taken : List Event) → Knows l.initial.self taken → IsPiece (links_of l.initial.self) taken l.events
      → Knows l.self (taken ++ take l.event-index l.events);
  links : links_of l.self ≡ links_of l.initial.self;
}
