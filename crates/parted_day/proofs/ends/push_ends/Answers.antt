use Rattle.std.proofs.Common.{◌∙◌, ◌<◌, ◌+◌, ◌-◌, ◌++◌, ap, arith, sym, ℕ, List, length, get_or}
use Rattle.std.{proofs.lemmas.List.get_or_default, specs.List.flat_map}
use Rattle.events.specs.{Keys.phase_code, declared.event.Event.Event}
use Rattle.events.specs.declared.event.Phase.TheVariants as phase
use Rattle.town.specs.Views.{setup}
use Rattle.traffic.specs.{Day.keyed, Lists.below, Lists.numbers, Rows.nobody, declared.world.Person.Person}
use Rattle.person_moves.proofs.Counting.{went_on, went_through}
use Rattle.law_parts_of_days.specs.Riding.{stranded_on, told_on}
use Rattle.parted_day.proofs.ends.push_ends.Goals as goal

pub bounds-links-place : goal.bounds-links-place
bounds-links-place c =
    omega (c.loop-person-test.true, c.len-person-end.ensures.count, c.requires.given.each, c.requires.persons, c.requires.links, arith)

pub bounds-persons-place : goal.bounds-persons-place
bounds-persons-place c = omega (c.loop-person-test.true, c.len-person-end.ensures.count, c.requires.given.each, c.requires.persons, arith)

pub push_stranded-requires : goal.push_stranded-requires
push_stranded-requires c = omega (c.loop-person-test.true, c.len-person-end.ensures.count, c.requires.given.each, arith)

pub loop-person-preserved : goal.loop-person-preserved
loop-person-preserved c =
    let day = c.args.day.now in
    let S = setup day in
    let end = day.town.now.settings.end_second in
    let links = c.args.links.now in
    let persons = c.args.persons.now in
    let n = c.loop-person.person in
    let f = told_on S end links persons in
    let lt : n < length persons
    = omega (c.loop-person-test.true, c.len-person-end.ensures.count, c.requires.given.each, c.requires.persons, arith) in
    ap (λ (xs : List Event). xs ++ flat_map f (numbers (n + 1) (c.len-person-end.result - (n + 1)))) c.in_ok-push_stranded.ensures
    ∙ went_on f n c.len-person-end.result c.loop-person.events.items _ _ c.loop-person-test.true
    (ap (λ (P : Person). keyed end (phase_code phase.E) n 0 (stranded_on S (get_or links n 0) n P)) (get_or_default persons n _ nobody lt))
    c.loop-person.invariant

pub returns : goal.returns
returns c =
    let f = told_on (setup c.args.day.now) c.args.day.now.town.now.settings.end_second c.args.links.now c.args.persons.now in
    went_through f c.loop-person.person c.len-person-end.result c.loop-person.events.items _ c.loop-person-test.false
    c.loop-person.invariant
    ∙ ap (λ (n : ℕ). c.args.events.now.items ++ flat_map f (below n)) (c.len-person-end.ensures.count ∙ c.requires.given.each
    ∙ sym c.requires.persons)
