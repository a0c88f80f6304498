use Rattle.std.proofs.Common.{◌≡◌, take}
use Rattle.iterations.specs.Written.{scores_at}
use Rattle.iterations.proofs.ends.scores_at.Given as goal

abbrev pub invariant-loop-place : goal.invariant-loop-place
invariant-loop-place l = l.scores.items ≡ scores_at l.memory (take l.place-index l.places)
