use Rattle.scenario.proofs.Common.{◌≡◌, map, numbers_of, leg_in_town}
use Rattle.scenario.proofs.renumbering.legs_in_town.Given as goal

-- the legs so far have the town's numbers
abbrev pub invariant-loop-leg : goal.invariant-loop-leg
invariant-loop-leg l = l.rows.items ≡ map (leg_in_town (numbers_of l.numbering)) l.yielded
