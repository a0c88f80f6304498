use Rattle.std.{proofs.Common.◌≡◌, proofs.Common.◌++◌, proofs.Common.List, proofs.Common.map, proofs.Common.drop, specs.List.enumerate_from, specs.List.All}
use Rattle.events.specs.declared.event.Event.{Event}
use Rattle.scoring.specs.{Ranges.IsWithin, Tables.scoring_rows, Taken.first_kind_of, declared.TheConstants.MAX_SCORE}
use Rattle.day_scores.specs.{Scores.score_of, Standing.StandFor}
use Rattle.day_scores.proofs.scorers.finished.Given as goal

-- the scores so far and those from here on are all
abbrev pub invariant-loop-scorer : goal.invariant-loop-scorer
invariant-loop-scorer l =
    ((taken : List Event) → StandFor (scoring_rows l.tables) l.scorers taken
    → l.scores.items ++ map (score_of (scoring_rows l.tables) taken) (enumerate_from l.scorer-index (drop l.scorer-index (map first_kind_of l.scorers)))
    ≡ map (score_of (scoring_rows l.tables) taken) (enumerate_from 0 (map first_kind_of l.scorers)))
    × All (IsWithin MAX_SCORE) l.scores.items
