-- How a day begins and ends.
use Rattle.traffic.proofs.Common.{◌≡◌, ℕ, List, ◌∙◌, length, ap, refl, sym, [], ◌++◌, subst, length-map, All-from_recursion, flat_map, phase_code, Event}
use Rattle.traffic.proofs.Common.{plan_rows, world_start, keyed, world_from, events_from, day, end_events, below, stranded, World, Setup}
use Rattle.events.specs.declared.event.Phase.TheVariants as phase
use Rattle.events.specs.Lines.{AreInBook}
use Rattle.town.specs.{Setups.setup_of, Views.setup, declared.day_input.DayInput.DayInput}
use Rattle.law_in_range.proofs.{Days.chosen_fit, Naming.Named, Seconds.day_named, Towns.town_fit, Towns.book_of}
use Rattle.law_in_range.specs.Setups.{counts_in, HaveFittingPlans}

pub world_none : (S : Setup) (W : World) → W ≡ world_from S W 0
unfolding world_from
world_none S W = refl

pub events_none : (S : Setup) (W : World) (es : List Event) → es ≡ [] → es ≡ events_from S W 0
unfolding events_from
events_none S W es e = e

end_of : (day : DayInput) → (setup day).settings.end_second ≡ day.town.now.settings.end_second
unfolding setup_of
end_of day = refl

-- the seconds of a day and its end are the day
pub day_is : (d : DayInput) (first last : World) (told out : List Event) → first ≡ world_start (setup d)
    → last ≡ world_from (setup d) first d.town.now.settings.end_second → told ≡ events_from (setup d) first d.town.now.settings.end_second
    → out ≡ told ++ end_events (setup d) d.town.now.settings.end_second last → out ≡ day (setup d)
unfolding day
day_is d first last told out e f g h =
    let S = setup d in
    let f0 = f ∙ ap (λ (W : World). world_from S W d.town.now.settings.end_second) e in
    let g0 = g ∙ ap (λ (W : World). events_from S W d.town.now.settings.end_second) e in
    h ∙ ap (λ (W : World). told ++ end_events S d.town.now.settings.end_second W) f0 ∙ ap (λ (xs : List Event). xs ++ end_events S d.town.now.settings.end_second (world_from S (world_start S) d.town.now.settings.end_second)) g0
    ∙ ap (λ (t : ℕ). events_from S (world_start S) t ++ end_events S t (world_from S (world_start S) t)) (sym (end_of d))

pub day_in_book : (d : DayInput) (out : List Event) → HaveFittingPlans d → out ≡ day (setup d) → AreInBook out d.town.now.book
day_in_book d out given e =
    let S = setup d in
    let z = counts_in d in
    let named = day_named z d.town.now.book S (book_of d given.each) (town_fit d (chosen_fit d given)) in
    subst (λ (xs : List Event). AreInBook xs d.town.now.book) (sym e) (All-from_recursion (Named d.town.now.book) (day S) named)

-- what is told of each person at the end of the day
abbrev pub told_at_end : DayInput → World → ℕ → List Event
told_at_end day W i = keyed day.town.now.settings.end_second (phase_code phase.E) i 0 (stranded (setup day) W i)

persons_of : (day : DayInput) → length (setup day).persons ≡ length day.chosen.now
unfolding setup_of
persons_of day = length-map day.chosen.now plan_rows

pub ends_told : (day : DayInput) (W : World) (count : ℕ) (old out : List Event) → count ≡ length day.chosen.now → out ≡ old ++ flat_map (told_at_end day W) (below count)
    → out ≡ old ++ end_events (setup day) day.town.now.settings.end_second W
unfolding end_events
ends_told day W count old out c e = e ∙ ap (λ (n : ℕ). old ++ flat_map (told_at_end day W) (below n)) (c ∙ sym (persons_of day))
