-- The scores of a day.
use Rattle.std.specs.{List.enumerate_from, Prelude.ℕ, Prelude.List, Prelude.map, Prelude.ℤ}
use Rattle.events.specs.{Persons.own_events, declared.event.Event.Event}
use Rattle.rows.specs.PlanRows.{PlanRows, act_in}
use Rattle.scoring.specs.{Score.score, Tables.ScoringRows}

-- the kind of the first activity of a plan
abbrev pub first_kind : PlanRows → ℕ
first_kind plan = (act_in plan 0).kind

-- the score of a person, who has a number and a first activity of a kind, by his own events
abbrev pub score_of : ScoringRows → List Event → ℕ × ℕ → ℤ
score_of scoring events person = score scoring person.1 (own_events person.0 events)

-- the scores of the persons of a day, by their numbers, where their first activities are of these kinds
unfoldable pub scores_of : ScoringRows → List ℕ → List Event → List ℤ
scores_of scoring kinds events = map (score_of scoring events) (enumerate_from 0 kinds)
