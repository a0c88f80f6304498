-- What holds of the worlds of a day in a town: they are fit and sound, everybody is in one place, and who waits does so since before.
use Rattle.traffic.proofs.Common.{ℕ, zero, suc, ◌<◌, List, [], length, sym, subst, arith, add-one, length-map, get_or-map}
use Rattle.traffic.proofs.Common.{Phase, PlanRows, Setup, nobody, at_home, world_start, world_from, world_at, through, phases, second, Sound}
use Rattle.traffic.specs.declared.world.Person.{Person}
use Rattle.law_in_range.proofs.{Days.chosen_fit, Seconds.start_fit, Seconds.from_fit, Seconds.through_fit, Towns.town_fit}
use Rattle.law_in_range.specs.{Rows.IsFitWorld, Setups.IsFitSetup, Setups.counts_in, Setups.HaveFittingPlans}
use Rattle.law_one_place.proofs.{Places.InOne, Turns.always_kept, Turns.through_keeps}
use Rattle.law_sound_setups.{proofs.Laws.phases_sound, specs.Consistent.IsConsistentSetup, specs.Setups.IsSoundSetup}
use Rattle.law_matches_plans.proofs.Towns.{town_sound, town_consistent}
use Rattle.town.specs.{Views.setup, declared.day_input.DayInput.DayInput}
use Rattle.part_lines.proofs.News.{IsBefore, WaitBefore, wait_on}

-- THE SETUP
pub fit_setup : (day : DayInput) → HaveFittingPlans day → IsFitSetup (counts_in day) (setup day)
fit_setup day given = town_fit day (chosen_fit day given)

pub sound_setup : (day : DayInput) → HaveFittingPlans day → IsSoundSetup (setup day)
sound_setup day given = town_sound day (chosen_fit day given)

pub consistent_setup : (day : DayInput) → HaveFittingPlans day → IsConsistentSetup (setup day)
consistent_setup day given = town_consistent day (chosen_fit day given)

-- ITS WORLDS
day_fit : (day : DayInput) (t : ℕ) → HaveFittingPlans day → IsFitWorld (counts_in day) (world_at (setup day) t)
day_fit day t given =
    from_fit (counts_in day) (setup day) (world_start (setup day)) t (fit_setup day given) (start_fit (counts_in day) (setup day) (fit_setup day given))

-- at each time between the phases of a second the world is fit and sound, and each person is in one place
pub phases_fit : (day : DayInput) (t : ℕ) (ps : List Phase) → HaveFittingPlans day
    → IsFitWorld (counts_in day) (through (setup day) t ps (world_at (setup day) t))
phases_fit day t ps given =
    through_fit (counts_in day) (setup day) t ps (world_at (setup day) t) (fit_setup day given) (day_fit day t given)

pub phases_are_sound : (day : DayInput) (t : ℕ) (ps : List Phase) → HaveFittingPlans day
    → Sound (setup day) (through (setup day) t ps (world_at (setup day) t))
phases_are_sound day t ps given = phases_sound (setup day) t ps (sound_setup day given)

pub phases_in_one : (S : Setup) (t i : ℕ) (ps : List Phase) → i < length S.persons → InOne i (through S t ps (world_at S t))
phases_in_one S t i ps lt =
    let o = always_kept S t in
    let row = o.one_row in
    through_keeps S t i ps (world_at S t) (record { there = omega arith; listed = o.one_place i lt })

-- who waits at the start of second t does so since before
start_before : (S : Setup) → WaitBefore 0 (world_start S)
unfolding world_start
start_before S = λ i lt.
    let n = length-map S.persons at_home in
    let none : PlanRows = record { acts = []; legs = [] } in
    let there : i < length S.persons = omega arith in
    let e = get_or-map at_home S.persons i none nobody there in
    subst (λ (P : Person). IsBefore 0 P.place) (sym e) tt

pub waited_before : (S : Setup) (t : ℕ) → WaitBefore t (world_at S t)
unfolding world_from
waited_before S zero = start_before S
waited_before S (suc t) =
    subst (λ (k : ℕ). WaitBefore k (second S t (world_from S (world_start S) t))) (add-one t)
    (wait_on S t phases (world_from S (world_start S) t) (waited_before S t))
