use Rattle.traffic.proofs.Common.{◌≡◌, length, ◌++◌, map, rider}
use Rattle.plain_turns.proofs.stops.push_riders.Given as goal

abbrev pub invariant-loop-rest : goal.invariant-loop-rest
invariant-loop-rest l = l.riders.items ++ map rider l.rest ≡ l.initial.riders.items ++ map rider l.waiters

abbrev pub decreases-loop-rest : goal.decreases-loop-rest
decreases-loop-rest l = length l.rest
