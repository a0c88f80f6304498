use Rattle.traffic.proofs.Common.{◌≡◌, take, map, plan_rows, at_home}
use Rattle.person_moves.proofs.start_of_day.all_at_home.Given as goal

abbrev pub invariant-loop-plan : goal.invariant-loop-plan
invariant-loop-plan l = l.persons.items ≡ map at_home (map plan_rows (take l.plan-index l.day.chosen.now))
