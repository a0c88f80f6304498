-- A town, and what a day is made from, as the definitions see them.
use Rattle.std.specs.{List.All, Prelude.◌≡◌, Prelude.true, Prelude.List, Prelude.map}
use Rattle.rows.specs.{PlanRows.PlanRows, PlanRows.plan_rows, declared.plan.Plan.Plan}
use Rattle.traffic.specs.Setup.{Setup}
use Rattle.town.specs.{Fits.fits, Rows.TownRows, Rows.town_rows, Setups.setup_of, declared.day_input.DayInput.DayInput, declared.town.Town.Town}

-- the lists of rows of a town
abbrev pub rows_of : Town → TownRows
rows_of t = town_rows t.seed t.settings t.network t.stops t.routes t.departures t.book t.greens

-- the chosen plans of a day
abbrev pub chosen_in : DayInput → List PlanRows
chosen_in day = map plan_rows day.chosen.now

-- each chosen plan of a day fits the town
abbrev pub ChosenFit : DayInput → Type 0
ChosenFit day = All (λ (p : Plan). fits (rows_of day.town.now) (plan_rows p) ≡ true) day.chosen.now

-- the setup of a day
abbrev pub setup : DayInput → Setup
setup day = setup_of (rows_of day.town.now) (chosen_in day) day.iteration
