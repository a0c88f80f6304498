-- What the day of a town tells of a person.
use Rattle.std.specs.Prelude.{◌≡◌, ◌≤◌, ◌*◌, ℕ, List, [], ◌∷◌, ◌++◌, length}
use Rattle.events.specs.{Persons.own_events, declared.event.Event.Event, declared.event.Word.TheVariants.StuckAndAbort}
use Rattle.traffic.specs.{Day.day, Setup.Setup}
use Rattle.law_matches_plans.specs.Trips.{InTurn, at_activities, steps, legs}

-- the events of person i come as his plan says
pub record IsToldAsPlanned (S : Setup) (i : ℕ) : Type 0 where
  -- trip after trip: an activity ends and a leg departs, on its link; it arrives on the link of the next activity, which starts, or he is
  -- stuck
  pub turn : InTurn (at_activities S i) S i 0 (steps i (day S))
  -- after he is stuck nothing more is told of him
  pub last : (before later : List Event) (e : Event) → own_events i (day S) ≡ before ++ e ∷ later → e.word ≡ StuckAndAbort
      → later ≡ []
  -- at most eight events name him for each leg of his plan, and so at most 64
  pub few : length (own_events i (day S)) ≤ 8 * legs S i
  pub most : length (own_events i (day S)) ≤ 64
