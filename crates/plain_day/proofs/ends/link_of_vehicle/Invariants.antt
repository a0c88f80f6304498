use Rattle.traffic.proofs.Common.{◌≡◌, length, link_of_vehicle}
use Rattle.plain_day.proofs.ends.link_of_vehicle.Given as goal

abbrev pub invariant-loop-rest : goal.invariant-loop-rest
invariant-loop-rest l = link_of_vehicle l.vehicle l.rest ≡ link_of_vehicle l.vehicle l.rows

abbrev pub decreases-loop-rest : goal.decreases-loop-rest
decreases-loop-rest l = length l.rest
