use Rattle.scenario.proofs.Common.{◌≡◌, map, all_plan_rows, numbers_of, plan_in_town}
use Rattle.scenario.proofs.renumbering.plans_in_town.Given as goal

-- the persons so far have the town's numbers
abbrev pub invariant-loop-own : goal.invariant-loop-own
invariant-loop-own l = all_plan_rows l.rows.items ≡ map (map (plan_in_town (numbers_of l.numbering))) (all_plan_rows l.yielded)
