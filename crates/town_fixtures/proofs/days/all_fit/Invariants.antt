use Rattle.std.{proofs.Common.◌≡◌, proofs.Common.drop, specs.List.list_all, specs.Prelude.map}
use Rattle.rows.specs.PlanRows.{plan_rows}
use Rattle.town.specs.{Fits.fits, Views.rows_of}
use Rattle.town_fixtures.proofs.days.all_fit.Given as goal

abbrev pub invariant-loop-plan : goal.invariant-loop-plan
invariant-loop-plan l =
    list_all (fits (rows_of l.town)) (map plan_rows (drop l.plan-index l.chosen)) ≡ list_all (fits (rows_of l.town)) (map plan_rows l.chosen)
