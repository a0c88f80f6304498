-- The chosen plans in the setup of a day.
use Rattle.traffic.proofs.Common.{◌≡◌, ℕ, ◌∙◌, length, ap, sym, [], arith, ◌<◌, ◌≤◌, get_or, length-map, get_or_past, get_or-map, map, plan_rows}
use Rattle.traffic.proofs.Common.{Plan, person_plan}
use Rattle.town.specs.{Setups.setup_of, Views.setup, declared.day_input.DayInput.DayInput}

-- the plan of a person who has one
pub plan_there : (day : DayInput) (i : ℕ) (p : Plan) → i < length day.chosen.now → p ≡ get_or day.chosen.now i p → person_plan (setup day) i ≡ plan_rows p
unfolding setup_of
plan_there day i p lt e = get_or-map plan_rows day.chosen.now i p _ lt ∙ ap plan_rows (sym e)

-- a person who has none
pub plan_past : (day : DayInput) (i : ℕ) → length day.chosen.now ≤ i → person_plan (setup day) i ≡ record { acts = []; legs = [] }
unfolding setup_of
plan_past day i le = let e = length-map day.chosen.now plan_rows in get_or_past (map plan_rows day.chosen.now) i _ (omega arith)
