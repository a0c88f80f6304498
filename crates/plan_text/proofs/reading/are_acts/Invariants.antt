use Rattle.std.proofs.Common.{◌≡◌, ◌∷◌, length}
use Rattle.rows.specs.Plan.{are_acts}
use Rattle.plan_text.proofs.reading.are_acts.Given as goal

abbrev pub invariant-loop-rest : goal.invariant-loop-rest
invariant-loop-rest l = are_acts (l.act ∷ l.rest) ≡ are_acts l.acts

abbrev pub decreases-loop-rest : goal.decreases-loop-rest
decreases-loop-rest l = length l.rest
