use Rattle.traffic.proofs.Common.{◌∙◌, ap, ◌++◌, flat_map, phase_code, keyed, run, told}
use Rattle.town.specs.Views.{setup}
use Rattle.law_in_range.proofs.Days.{turn_keeps_fit, one_each}
use Rattle.part_persons.specs.Phases.{phase_of}
use Rattle.part_persons.proofs.persons.Persons.do_early.Goals as goal

pub do_turn-requires-clause-plans : goal.do_turn-requires-clause-plans
do_turn-requires-clause-plans c = one_each c.args.day.now c.args.self.now.world c.requires.fit

pub returns-clause-world : goal.returns-clause-world
returns-clause-world c =
    c.in_ok-do_turn.ensures.world ∙ ap (λ ms. run (setup c.args.day.now) c.args.second ms c.args.self.now.world) c.in_ok-moves.ensures

pub returns-clause-fit : goal.returns-clause-fit
returns-clause-fit c =
    let S = setup c.args.day.now in
    turn_keeps_fit c.args.day.now c.args.second c.args.number (phase_of c.args.early) c.args.self.now.world _ c.requires.given c.requires.fit
    c.requires.there (c.in_ok-do_turn.ensures.world ∙ ap (λ ms. run S c.args.second ms c.args.self.now.world) c.in_ok-moves.ensures)

pub returns-clause-events : goal.returns-clause-events
returns-clause-events c =
    let old = c.args.events.now.items in
    c.in_ok-do_turn.ensures.events
    ∙ ap (λ p. old ++ keyed c.args.second (phase_code p) c.args.number 0 (flat_map told c.in_ok-moves.moves.items)) c.phase-phase.ensures
    ∙ ap (λ ms. old ++ keyed c.args.second (phase_code (phase_of c.args.early)) c.args.number 0 (flat_map told ms)) c.in_ok-moves.ensures
