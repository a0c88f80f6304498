use Rattle.std.proofs.Common.{◌≡◌, ◌∷◌, length}
use Rattle.rows.specs.Joined.{is_joined}
use Rattle.rows.proofs.joined.is_joined.Given as goal

abbrev pub invariant-loop-rest : goal.invariant-loop-rest
invariant-loop-rest l = is_joined l.ends (l.link ∷ l.rest) ≡ is_joined l.ends l.route

abbrev pub decreases-loop-rest : goal.decreases-loop-rest
decreases-loop-rest l = length l.rest
