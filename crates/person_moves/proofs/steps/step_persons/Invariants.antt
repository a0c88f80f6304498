use Rattle.traffic.proofs.Common.{◌≡◌, length, persons_after}
use Rattle.town.specs.Views.{setup}
use Rattle.person_moves.proofs.steps.step_persons.Given as goal

abbrev pub invariant-loop-rest : goal.invariant-loop-rest
invariant-loop-rest l =
    persons_after (setup l.day) l.second l.rest l.persons
    ≡ persons_after (setup l.day) l.second l.said l.initial.persons

abbrev pub decreases-loop-rest : goal.decreases-loop-rest
decreases-loop-rest l = length l.rest
