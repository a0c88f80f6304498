use Rattle.std.{proofs.Common.◌≡◌, proofs.Common.length, specs.Prelude.fold}
use Rattle.plan_memory.specs.Scores.{higher, highest}
use Rattle.plan_memory.proofs.scores.highest.Given as goal

abbrev pub invariant-loop-rest : goal.invariant-loop-rest
invariant-loop-rest l = fold higher l.found l.rest ≡ highest l.scores

abbrev pub decreases-loop-rest : goal.decreases-loop-rest
decreases-loop-rest l = length l.rest
