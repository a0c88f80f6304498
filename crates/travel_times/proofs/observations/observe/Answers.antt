use Rattle.std.proofs.Common.{List, Option, None, ap, sym, ◌∙◌}
use Rattle.std.specs.Prelude.{slice_index_or}
use Rattle.travel_times.specs.declared.observations.Entry.{Entry}
use Rattle.travel_times.proofs.Known.{known_other, known_car, on_a_link, cars_few}
use Rattle.travel_times.proofs.observations.observe.Goals as goal

pub returns-in_default-clause-known : goal.returns-in_default-clause-known
returns-in_default-clause-known c = λ taken known piece.
    known_other c.args.known.now.links taken c.args.event.now c.args.known.now.rows.items c.args.known.now.entries.items
    (sym c.car_in.ensures ∙ c.in_default.is) known

pub end_stay-requires-clause-entry : goal.end_stay-requires-clause-entry
end_stay-requires-clause-entry c =
    on_a_link c.args.known.now.links c.in-Some.car c.requires.0 c.args.event.now c.entry_at-entry.result c.requires.2
    (c.entry_at-entry.ensures ∙ ap (λ (es : List (Option Entry)). slice_index_or es c.in-Some.car None) c.deref.ensures.value
    ∙ c.requires.1.entered c.in-Some.car)

pub end_stay-requires-clause-cars : goal.end_stay-requires-clause-cars
end_stay-requires-clause-cars c =
    cars_few c.args.known.now.links c.requires.0 c.args.event.now c.args.known.now.rows.items c.args.known.now.entries.items
    c.requires.2 c.requires.1

pub returns-clause-known : goal.returns-clause-known
returns-clause-known c = λ taken known piece.
    known_car c.args.known.now.links c.in-Some.car taken c.args.event.now c.args.known.now.rows.items c.end_stay.new.rows.items
    c.args.known.now.entries.items c.set_entry.new.entries.items
    c.entry_at-entry.result c.entry_in.result (sym c.car_in.ensures ∙ c.in-Some.is) known c.in_ok-end_stay.ensures.rows
    (c.entry_at-entry.ensures ∙ ap (λ (es : List (Option Entry)). slice_index_or es c.in-Some.car None) c.deref.ensures.value
    ∙ known.entered c.in-Some.car)
    c.in_ok-end_stay.ensures.ends c.entry_in.ensures c.in_ok-set_entry.ensures
