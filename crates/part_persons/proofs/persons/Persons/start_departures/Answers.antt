use Rattle.std.proofs.Common.{ℕ, List, ◌∙◌, ◌++◌, ap, subst, sym, length}
use Rattle.events.specs.declared.event.Phase.TheVariants as phase
use Rattle.town.specs.Views.{setup}
use Rattle.traffic.specs.Day.{turns_of, departure_turns, turns, after, events_in}
use Rattle.calendar.specs.Due.{AreIn}
use Rattle.part_persons.proofs.persons.Persons.start_departures.Goals as goal

pub do_turns-requires-clause-there : goal.do_turns-requires-clause-there
do_turns-requires-clause-there c =
    subst (λ (ns : List ℕ). AreIn (length (setup c.args.day.now).departures) ns) (sym (c.deref.ensures.value ∙ c.in_ok-due.ensures.due))
    c.requires.there

pub returns-clause-world : goal.returns-clause-world
unfolding turns_of
returns-clause-world c =
    let S = setup c.args.day.now in
    let t = c.args.second in
    let W = c.args.self.now.world in
    c.in_ok-do_turns.ensures.world
    ∙ ap (λ (ns : List ℕ). after S t (turns S t (departure_turns S t) ns W) W) (c.deref.ensures.value ∙ c.in_ok-due.ensures.due)

pub returns-clause-events : goal.returns-clause-events
unfolding turns_of
returns-clause-events c =
    let S = setup c.args.day.now in
    let t = c.args.second in
    let W = c.args.self.now.world in
    c.in_ok-do_turns.ensures.events
    ∙ ap (λ (ns : List ℕ). c.args.events.now.items ++ events_in t phase.B2 (turns S t (departure_turns S t) ns W))
    (c.deref.ensures.value ∙ c.in_ok-due.ensures.due)
