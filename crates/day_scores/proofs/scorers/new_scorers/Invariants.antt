use Rattle.std.proofs.Common.{◌≡◌, [], map, take}
use Rattle.scoring.specs.{Tables.ScoringRows, Taken.first_kind_of}
use Rattle.day_scores.specs.Standing.{StandFor}
use Rattle.day_scores.proofs.scorers.new_scorers.Given as goal

abbrev pub invariant-loop-kind : goal.invariant-loop-kind
invariant-loop-kind l =
    (map first_kind_of l.scorers.items ≡ take l.kind-index l.kinds) × ((scoring : ScoringRows) → StandFor scoring l.scorers.items [])
