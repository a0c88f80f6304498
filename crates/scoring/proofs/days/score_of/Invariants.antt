use Rattle.std.proofs.Common.{◌≡◌, ◌<◌, ℕ, get_or, take}
use Rattle.events.specs.declared.event.Event.{Event}
use Rattle.scoring.specs.{Tables.scoring_rows, Taken.first_kind_of, Taken.MayFollow, Taken.IsTakenBy}
use Rattle.scoring.proofs.days.score_of.Given as goal

abbrev pub invariant-loop-place : goal.invariant-loop-place
invariant-loop-place l =
    (first_kind_of l.scorer ≡ l.first_kind)
    × IsTakenBy (scoring_rows l.tables) l.scorer (take l.place l.events)
    × ((k : ℕ) → k < l.place → (d : Event) → MayFollow (take k l.events) (get_or l.events k d))
