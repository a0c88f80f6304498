use Rattle.scenario.proofs.Common.{◌≡◌, map, plan_rows, numbers_of, plan_in_town}
use Rattle.scenario.proofs.renumbering.own_in_town.Given as goal

-- the plans so far have the town's numbers
abbrev pub invariant-loop-plan : goal.invariant-loop-plan
invariant-loop-plan l = map plan_rows l.rows.items ≡ map (plan_in_town (numbers_of l.numbering)) (map plan_rows l.yielded)
