-- What is read of a plan keeps the limits of plans.
use Rattle.records.proofs.Common.{◌≡◌, List, ℕ, length, arith, [], None, Some, ◌++◌, ◌∷◌, refl, true, Bool, Option, ◌+◌, false, ◌≤◌, length-append, nat_tests}
use Rattle.records.proofs.Common.{list_all, is_some, nat_le, unwrap_or, option_to_list, Mode, LAST_SECOND, MAX_ROUTE_LINKS, MAX_LEGS, field, numbers_of, Row}
use Rattle.records.proofs.Unrefused.{number_in_range}
use Rattle.std.specs.List.{AllByRecursion as Each}
use Rattle.events.specs.declared.event.Mode.TheVariants as mode
use Rattle.rows.specs.{Plan.is_leg, Plan.has_end, Plan.are_acts, PlanRows.PlanRows, declared.plan.Act.Act, declared.plan.Leg.Leg}
use Rattle.plans.specs.declared.kinds.ElementKind.TheVariants as element
use Rattle.plans.{proofs.Closing.are_acts_closed, proofs.Items.count_numbers, proofs.Soundness.all_push, specs.Kinds.is_transit, specs.Kinds.items_of}
use Rattle.plans.specs.Progress.{Progress, LegAble, closed_acts, closed_of, with_kind, lines_with, stops_with, put_act, step_first, step_act, step_leg}
use Rattle.plans.specs.{Progress.ends_well, Progress.finish, Refusals.has_bad_time, Refusals.begins_plan, Values.endless, Values.leg_by}

-- what each plan keeps
pub record IsPlan (p : PlanRows) : Type 0 where
  pub one_more : length p.acts ≡ length p.legs + 1
  pub few : length p.legs ≤ MAX_LEGS
  pub ends : are_acts p.acts ≡ true
  pub legs : list_all is_leg p.legs ≡ true

-- the plans so far keep it, and the open one keeps it once it is closed
pub record Shaped (p : Progress) : Type 0 where
  pub plans : Each (Each IsPlan) p.plans
  pub own : Each IsPlan p.own
  pub paired : length p.acts ≡ length p.legs
  pub few : length p.legs ≤ MAX_LEGS
  pub ends : list_all has_end p.acts ≡ true
  pub legs : list_all is_leg p.legs ≡ true

pub each_push : {X : Type 0} (P : X → Type 0) (xs : List X) (x : X) → Each P xs → P x → Each P (xs ++ x ∷ [])
each_push P [] x h one = (one, tt)
each_push P (y ∷ xs) x h one = (h.0, each_push P xs x h.1 one)

closed_plan : (acts : List Act) (legs : List Leg) (last : Option Act) → length acts ≡ length legs → length legs ≤ MAX_LEGS → list_all has_end acts ≡ true → list_all is_leg legs ≡ true → is_some last ≡ true
    → IsPlan (record { acts = closed_acts acts last; legs = legs })
closed_plan acts legs None paired few ends sound there = cc
closed_plan acts legs (Some last) paired few ends sound there =
    let more = length-append acts (endless last ∷ []) in
    record { one_more = omega arith; few = few; ends = are_acts_closed acts (endless last) refl ends; legs = sound }

-- the open plan, closed
closed_is_plan : (p : Progress) → Shaped p → is_some p.last ≡ true → IsPlan (closed_of p)
closed_is_plan p s there = closed_plan p.acts p.legs p.last s.paired s.few s.ends s.legs there

-- all plans so far, with the open one closed
pub shaped_all : (p : Progress) → Shaped p → is_some p.last ≡ true → Each (Each IsPlan) (finish p).plans
unfolding finish
shaped_all p s there = each_push (Each IsPlan) p.plans (p.own ++ closed_of p ∷ []) s.plans (each_push IsPlan p.own (closed_of p) s.own (closed_is_plan p s there))

-- the first row is read
pub shaped_first : (links : List (List ℕ)) (row : Row) → Shaped (step_first links row)
unfolding step_first
shaped_first links row = record { plans = tt; own = tt; paired = refl; few = omega arith; ends = refl; legs = refl }

shaped_put : (p : Progress) (plan person : Bool) (row : Row) (number : ℕ) (act : Act) → Shaped p → (plan ≡ true → is_some p.last ≡ true) → Shaped (put_act p plan person row number act)
unfolding put_act finish
shaped_put p true true row number act s closes =
    record { plans = shaped_all p s (closes refl); own = tt; paired = refl; few = omega arith; ends = refl; legs = refl }
shaped_put p true false row number act s closes =
    record { plans = s.plans; own = each_push IsPlan p.own (closed_of p) s.own (closed_is_plan p s (closes refl)); paired = refl; few = omega arith; ends = refl; legs = refl }
shaped_put p false person row number act s closes = record { plans = s.plans; own = s.own; paired = s.paired; few = s.few; ends = s.ends; legs = s.legs }

-- an activity is read
pub shaped_act : (links : List (List ℕ)) (p : Progress) (before : Option Row) (row : Row) (number : ℕ) → Shaped p → (begins_plan before row ≡ true → is_some p.last ≡ true) → Shaped (step_act links p before row number)
unfolding step_act
shaped_act links p before row number s closes =
    shaped_put (with_kind p row) _ _ row number _ (record { plans = s.plans; own = s.own; paired = s.paired; few = s.few; ends = s.ends; legs = s.legs }) closes

few_links : (items links : List (List ℕ)) (found : Option (List ℕ)) → numbers_of items links ≡ found → length items ≤ MAX_ROUTE_LINKS → nat_le (length (unwrap_or found [])) MAX_ROUTE_LINKS ≡ true
few_links items links None is few = refl
few_links items links (Some numbers) is few = let count = count_numbers items links numbers is in grind (arith, nat_tests)

-- what a leg's row gives is a leg
leg_is_leg : (lines stops links : List (List ℕ)) (legs : ℕ) (mode : Mode) (row : Row) → LegAble links legs mode row → is_leg (leg_by lines stops links mode row) ≡ true
unfolding leg_by has_bad_time
leg_is_leg lines stops links legs mode.Car row able = few_links (items_of row) links (numbers_of (items_of row) links) refl (able.few_links refl)
leg_is_leg lines stops links legs mode.Pt row able = refl
leg_is_leg lines stops links legs mode row able = number_in_range 1 LAST_SECOND (field row 5) able.times

last_ends : (acts : List Act) (last : Option Act) → list_all has_end acts ≡ true → ends_well last ≡ true → list_all has_end (acts ++ option_to_list last) ≡ true
last_ends acts None ends well = cc
last_ends acts (Some last) ends well = all_push has_end acts last ends well

last_counts : (acts : List Act) (last : Option Act) → ends_well last ≡ true → length (acts ++ option_to_list last) ≡ length acts + 1
last_counts acts None well = cc
last_counts acts (Some last) well = length-append acts (last ∷ [])

-- a leg is read
pub shaped_leg : (links : List (List ℕ)) (p : Progress) (mode : Mode) (row : Row) → Shaped p → LegAble links (length p.legs) mode row → ends_well p.last ≡ true → Shaped (step_leg links p mode row)
unfolding step_leg
shaped_leg links p mode row s able well =
    let kind = element.Leg (Some mode) in
    let leg = leg_by (lines_with (is_transit kind) p.lines (items_of row)) (stops_with (is_transit kind) p.stops (items_of row)) links mode row in
    let more = length-append p.legs (leg ∷ []) in
    let acts = last_counts p.acts p.last well in
    let paired = s.paired in
    let room = able.few_legs in
    record {
      plans = s.plans;
      own = s.own;
      paired = omega arith;
      few = omega arith;
      ends = last_ends p.acts p.last s.ends well;
      legs = all_push is_leg p.legs leg s.legs (leg_is_leg _ _ links (length p.legs) mode row able);
    }
