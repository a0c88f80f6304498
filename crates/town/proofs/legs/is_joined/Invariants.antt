use Rattle.traffic.proofs.Common.{◌≡◌, length, ◌∷◌, ends_of}
use Rattle.rows.specs.Joined.{is_joined}
use Rattle.town.proofs.legs.is_joined.Given as goal

abbrev pub invariant-loop-rest : goal.invariant-loop-rest
invariant-loop-rest l = is_joined (ends_of l.links) (l.link ∷ l.rest) ≡ is_joined (ends_of l.links) l.route

abbrev pub decreases-loop-rest : goal.decreases-loop-rest
decreases-loop-rest l = length l.rest
