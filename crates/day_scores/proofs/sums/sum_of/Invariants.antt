use Rattle.std.proofs.Common.{◌≡◌, ◌*◌, pos, take}
use Rattle.scoring.specs.{Ranges.IsWithin, Score.total}
use Rattle.day_scores.proofs.sums.sum_of.Given as goal

abbrev pub invariant-loop-score : goal.invariant-loop-score
invariant-loop-score l = (l.sum ≡ total (take l.score-index l.scores)) × IsWithin (pos (100000000000000 * l.score-index)) l.sum
