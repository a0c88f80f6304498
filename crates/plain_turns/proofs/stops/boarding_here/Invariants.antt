use Rattle.traffic.proofs.Common.{◌≡◌, length, ◌++◌, filter, may_board}
use Rattle.plain_turns.proofs.stops.boarding_here.Given as goal

abbrev pub invariant-loop-rest : goal.invariant-loop-rest
invariant-loop-rest l = l.here.items ++ filter (may_board l.vehicle) l.rest ≡ filter (may_board l.vehicle) l.waiters

abbrev pub decreases-loop-rest : goal.decreases-loop-rest
decreases-loop-rest l = length l.rest
