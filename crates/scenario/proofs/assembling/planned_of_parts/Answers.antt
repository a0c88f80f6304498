use Rattle.std.proofs.Common.{◌≡◌, ◌∙◌, refl, sym, ap, subst, ℕ, List, length, map}
use Rattle.std.proofs.lemmas.List.{length-map}
use Rattle.rows.specs.PlanRows.{PlanRows, plan_rows, all_plan_rows}
use Rattle.plans.specs.Read.{file_rows_of}
use Rattle.settings.specs.Faults.{values_of}
use Rattle.town.specs.{Rows.TownRows, Views.rows_of}
use Rattle.scenario.proofs.{AllFit.all_kept, Settling.plans_fit, Settling.persons_are}
use Rattle.scenario.specs.FilesToScenario.{leg_checks_in, town_of, planned_of, schedule_view}
use Rattle.scenario.specs.{Fitting.all_fit, LegChecks.AreThere, Legs.LegChecks, Legs.plan_in_town, Views.network_view}
use Rattle.scenario.proofs.assembling.planned_of_parts.Goals as goal

pub invariant_of-result : goal.invariant_of-result
invariant_of-result c =
    let args = c.args in
    let v = values_of args.settings in
    let R = network_view args.network in
    let P = file_rows_of args.file in
    let S = schedule_view args.schedule in
    let G = args.greens in
    let T = town_of v R P.persons P.kinds S G in
    let plans = c.in-Ok.plans in
    let town_is : rows_of c.in-Ok-town_with_names.town ≡ T = c.in-Ok-town_with_names.ensures.rows in
    let plans_are : all_plan_rows plans ≡ map (map (plan_in_town (leg_checks_in P S).numbers)) (all_plan_rows args.file.plans) =
    c.in-Ok.ensures ∙ ap (λ (W : LegChecks). map (map (plan_in_town W.numbers)) (all_plan_rows args.file.plans)) c.requires.leg_checks in
    let there = subst (λ (W : LegChecks). AreThere (length S.lines) W) c.requires.leg_checks c.requires.there in
    let count = sym (length-map plans (map plan_rows)) ∙ ap (λ (l : List (List PlanRows)). length l) plans_are
    ∙ length-map (all_plan_rows args.file.plans) (map (plan_in_town (leg_checks_in P S).numbers)) ∙ c.requires.sound.each in
    record {
      each = count ∙ sym (ap (λ (names : List (List ℕ)). length names) (persons_are v R P.persons P.kinds S G (rows_of c.in-Ok-town_with_names.town) town_is));
      fitting = ap (λ (t : TownRows). all_fit t (all_plan_rows plans)) town_is ∙ ap (λ (l : List (List PlanRows)). all_fit T l) plans_are
          ∙ plans_fit v R P S G there args.network.each_link c.requires.sound (all_kept args.file.plans) c.requires.free;
    }

pub returns-in-Ok-town_with_names : goal.returns-in-Ok-town_with_names
unfolding planned_of
returns-in-Ok-town_with_names c =
    let args = c.args in
    let P = file_rows_of args.file in
    let S = schedule_view args.schedule in
    let T = town_of (values_of args.settings) (network_view args.network) P.persons P.kinds S args.greens in
    let plans = c.in-Ok.plans in
    let town = c.in-Ok-town_with_names.town in
    let town_is : rows_of town ≡ T = c.in-Ok-town_with_names.ensures.rows in
    let plans_are : all_plan_rows plans ≡ map (map (plan_in_town (leg_checks_in P S).numbers)) (all_plan_rows args.file.plans) =
    c.in-Ok.ensures ∙ ap (λ (W : LegChecks). map (map (plan_in_town W.numbers)) (all_plan_rows args.file.plans)) c.requires.leg_checks in
    rw (town_is, c.in-Ok-town_with_names.ensures.node_names, plans_are) refl
