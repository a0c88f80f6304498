-- Plans as their activities and legs.
use Rattle.std.specs.Prelude.{ℕ, ◌/◌, List, [], map, get_or, None}
use Rattle.rows.specs.declared.plan.{Act.Act, Leg.Leg, Plan.Plan}
use Rattle.rows.specs.declared.plan.Leg.TheVariants as leg

-- a plan's activities, and its legs, one between each activity and the next
pub record PlanRows : Type 0 where
  pub acts : List Act
  pub legs : List Leg

abbrev pub plan_rows : Plan → PlanRows
plan_rows plan = record { acts = plan.acts; legs = plan.legs }

-- each person's plans
abbrev pub all_plan_rows : List (List Plan) → List (List PlanRows)
all_plan_rows plans = map (map plan_rows) plans

-- PLANS BY ELEMENTS: element 2k is activity k, and 2k + 1 the leg after it
-- the activity of an element, or the one before the leg that the element is
abbrev pub act_in : PlanRows → ℕ → Act
act_in plan element = get_or plan.acts (element / 2) (record { kind = 0; link = 0; end = None })

-- the leg of an element, or the one after the activity that the element is
abbrev pub leg_in : PlanRows → ℕ → Leg
leg_in plan element = get_or plan.legs (element / 2) (leg.Car [])
