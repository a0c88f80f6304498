-- What the scorers of a day's persons stand for.
use Rattle.std.specs.Prelude.{◌≡◌, ◌<◌, ◌++◌, ℕ, true, List, length, get_or, take}
use Rattle.events.specs.{Persons.of_person, Persons.own_events, declared.event.Event.Event}
use Rattle.scoring.specs.{Tables.ScoringRows, Taken.MayFollow, Taken.AllFollow, Taken.IsTakenBy, declared.scorer.Scorer.Scorer}

-- by these tables each of the scorers stands for the events that name the person of its place
pub record StandFor (scoring : ScoringRows) (scorers : List Scorer) (events : List Event) : Type 0 where
  pub each : (i : ℕ) (d : Scorer) → i < length scorers → IsTakenBy scoring (get_or scorers i d) (own_events i events)

-- an event may come behind others: it may be taken behind those of the person whom it names, where he is one of the first n
pub record MayCome (n : ℕ) (taken : List Event) (event : Event) : Type 0 where
  pub follows : (i : ℕ) → i < n → of_person i event ≡ true → MayFollow (own_events i taken) event

-- each of these events may come behind others and those before it
abbrev pub AllCome : ℕ → List Event → List Event → Type 0
AllCome n taken events = (k : ℕ) → k < length events → (d : Event) → MayCome n (taken ++ take k events) (get_or events k d)

-- the events of each of the first n persons may be taken one after the other
abbrev pub AreScored : ℕ → List Event → Type 0
AreScored n events = (i : ℕ) → i < n → AllFollow (own_events i events)
