use Rattle.std.proofs.Common.{◌≡◌, ◌++◌, List, length, map, take}
use Rattle.events.specs.declared.event.Event.{Event}
use Rattle.scoring.specs.{Tables.scoring_rows, Taken.first_kind_of}
use Rattle.day_scores.specs.Standing.{StandFor, AllCome}
use Rattle.day_scores.proofs.scorers.take_events.Given as goal

abbrev pub invariant-loop-event : goal.invariant-loop-event
invariant-loop-event l = record {
  kinds : map first_kind_of l.scorers.items ≡ map first_kind_of l.initial.scorers.items;
  stand : (taken : List Event) → StandFor (scoring_rows l.tables) l.initial.scorers.items taken
      → AllCome (length l.initial.scorers.items) taken l.events
      → StandFor (scoring_rows l.tables) l.scorers.items (taken ++ take l.event-index l.events);
}
