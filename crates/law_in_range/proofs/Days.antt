-- A day of a town with plans that fit it stays fit: it begins so, each turn keeps it so, and who has a turn is there.
use Rattle.traffic.proofs.Common.{◌≡◌, ℕ, ◌∙◌, length, ap, sym, arith, ◌<◌, true, Bool, subst, length-map, All-from_recursion, list_all, Phase, plan_rows, Plan}
use Rattle.traffic.proofs.Common.{turns_of, count_of, run, World, world_start, person_of, person_plan, ◌/◌, Some}
use Rattle.traffic.specs.declared.world.Place.{Place, TheVariants.At}
use Rattle.std.proofs.lemmas.List.Folds.{list_all-map}
use Rattle.events.specs.declared.event.Phase.TheVariants as phase
use Rattle.town.specs.{Fits.fits, Setups.setup_of, Views.rows_of, Views.setup, Views.ChosenFit, declared.day_input.DayInput.DayInput}
use Rattle.law_in_range.proofs.{Kept.run_fit, Lists.each_tested, Seconds.start_fit, Seconds.turn_fit, Towns.town_fit}
use Rattle.law_in_range.specs.{Rows.IsFitPlace, Rows.IsFitWorld, Setups.counts_in, Setups.HaveFittingPlans}

pub chosen_fit : (day : DayInput) → HaveFittingPlans day → ChosenFit day
chosen_fit day given =
    let test : Plan → Bool = λ p. fits (rows_of day.town.now) (plan_rows p) in
    let P : Plan → Type 0 = λ p. fits (rows_of day.town.now) (plan_rows p) ≡ true in
    let passed : list_all test day.chosen.now ≡ true = sym (list_all-map (fits (rows_of day.town.now)) plan_rows day.chosen.now) ∙ given.fit in
    All-from_recursion P day.chosen.now (each_tested P test (λ p h. h) day.chosen.now passed)

pub one_each : (day : DayInput) (W : World) → IsFitWorld (counts_in day) W → length W.persons ≡ length day.chosen.now
one_each day W h = h.one_each ∙ length-map day.chosen.now plan_rows

pub start_is_fit : (day : DayInput) (W : World) → HaveFittingPlans day → W ≡ world_start (setup day) → IsFitWorld (counts_in day) W
start_is_fit day W given e =
    subst (IsFitWorld (counts_in day)) (sym e) (start_fit (counts_in day) (setup day) (town_fit day (chosen_fit day given)))

pub turn_keeps_fit : (day : DayInput) (t n : ℕ) (p : Phase) (W next : World) → HaveFittingPlans day → IsFitWorld (counts_in day) W
    → n < count_of (setup day) p → next ≡ run (setup day) t (turns_of (setup day) t p n W) W → IsFitWorld (counts_in day) next
turn_keeps_fit day t n p W next given fit there e =
    let S = setup day in
    let z = counts_in day in
    let f = town_fit day (chosen_fit day given) in
    subst (IsFitWorld z) (sym e) (run_fit z S t (turns_of S t p n W) W f fit (turn_fit z S t n p W f fit there))

-- who is at an activity that ends has a leg after it
pub can_leave : (day : DayInput) (W : World) (i : ℕ) → IsFitWorld (counts_in day) W → (end : ℕ) → (person_of i W).place ≡ At (Some end)
    → (person_of i W).element / 2 < length (person_plan (setup day) i).legs
unfolding setup_of
can_leave day W i h end e = subst (λ (p : Place). IsFitPlace (counts_in day) i (person_of i W).element p) e (h.persons i)

-- WHO HAS A TURN IN A PHASE IS THERE
in_persons : (day : DayInput) → count_of (setup day) phase.A ≡ length day.chosen.now
unfolding setup_of
in_persons day = length-map day.chosen.now plan_rows

there : (n count some : ℕ) → count ≡ some → n < count → n < some
there n count some e h = omega (e, h, arith)

pub lands_there : (day : DayInput) (n : ℕ) (p : Phase) → p ≡ phase.A → n < count_of (setup day) p → n < length day.chosen.now
lands_there day n p e h = there n _ _ (ap (count_of (setup day)) e ∙ in_persons day) h

pub leaves_there : (day : DayInput) (n : ℕ) (p : Phase) → p ≡ phase.B1 → n < count_of (setup day) p → n < length day.chosen.now
leaves_there day n p e h = there n _ _ (ap (count_of (setup day)) e ∙ in_persons day) h

pub departs_there : (day : DayInput) (n : ℕ) (p : Phase) → p ≡ phase.B2 → n < count_of (setup day) p → n < length day.town.now.departures.rows
unfolding setup_of
departs_there day n p e h = there n _ _ (ap (count_of (setup day)) e ∙ length-map day.town.now.departures.rows _) h

pub person_there : (day : DayInput) (W : World) (n : ℕ) → IsFitWorld (counts_in day) W → n < length day.chosen.now → n < length W.persons
person_there day W n h lt = there n _ _ (sym (one_each day W h)) lt
