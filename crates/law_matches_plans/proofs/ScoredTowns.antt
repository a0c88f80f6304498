-- What the day of a town tells of a person can be scored.
use Rattle.std.proofs.Common.{◌≡◌, ℕ, ◌<◌, ◌≤◌, true, List, length, map, sym, ◌∙◌, arith}
use Rattle.std.proofs.lemmas.List.{length-map, Elements.All-from_recursion, Folds.list_all-map}
use Rattle.std.specs.{List.list_all, Prelude.All}
use Rattle.limits.specs.declared.TheConstants.{LAST_SECOND}
use Rattle.events.specs.Persons.{own_events}
use Rattle.rows.specs.{PlanRows.PlanRows, PlanRows.plan_rows, declared.plan.Plan.Plan}
use Rattle.traffic.specs.Day.{day}
use Rattle.town.specs.{Fits.fits, Rows.TownRows, Rows.IsTown, Setups.setup_of}
use Rattle.law_in_range.{proofs.Lists.each_tested, proofs.Towns.plans_fit, specs.Setups.IsPlanIn}
use Rattle.law_matches_plans.{proofs.Scored.can_be_scored, proofs.Towns.rows_told, specs.Trips.at_activities}
use Rattle.scoring.specs.Taken.{AllFollow}

ends_in : (T : TownRows) (chosen : List PlanRows) (k : ℕ) → IsTown T → (setup_of T chosen k).settings.end_second ≤ LAST_SECOND
unfolding setup_of
ends_in T chosen k town = town.settings.ends

pub rows_scored : (T : TownRows) (chosen : List PlanRows) (k i : ℕ) → IsTown T → All (IsPlanIn T) chosen → i < length chosen
    → AllFollow (own_events i (day (setup_of T chosen k)))
rows_scored T chosen k i town plans less =
    let S = setup_of T chosen k in
    let told = rows_told T chosen k i town plans less in
    can_be_scored (at_activities S i) S i told.turn told.most (ends_in T chosen k town)

-- plans that pass the test are plans of the town
plans_in : (T : TownRows) (chosen : List Plan) → list_all (fits T) (map plan_rows chosen) ≡ true → All (IsPlanIn T) (map plan_rows chosen)
plans_in T chosen h =
    let test = λ (p : Plan). fits T (plan_rows p) in
    let P : Plan → Type 0 = λ p. fits T (plan_rows p) ≡ true in
    plans_fit T chosen (All-from_recursion P chosen (each_tested P test (λ p e. e) chosen (sym (list_all-map (fits T) plan_rows chosen) ∙ h)))

pub plans_scored : (T : TownRows) (chosen : List Plan) (k i : ℕ) → IsTown T → list_all (fits T) (map plan_rows chosen) ≡ true → i < length chosen
    → AllFollow (own_events i (day (setup_of T (map plan_rows chosen) k)))
plans_scored T chosen k i town fit less =
    rows_scored T (map plan_rows chosen) k i town (plans_in T chosen fit) (omega (arith, length-map chosen plan_rows))
