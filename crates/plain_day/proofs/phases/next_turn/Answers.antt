use Rattle.traffic.proofs.Common.{◌∙◌, ap, ◌++◌, flat_map, phase_code, keyed, run, told}
use Rattle.town.specs.Views.{setup}
use Rattle.law_in_range.proofs.Days.{turn_keeps_fit}
use Rattle.plain_day.proofs.phases.next_turn.Goals as goal

pub returns-clause-fit : goal.returns-clause-fit
returns-clause-fit c =
    let S = setup c.args.day.now in
    turn_keeps_fit c.args.day.now c.args.second c.args.turn.number c.args.turn.phase c.args.world.now _ c.requires.given c.requires.fit c.requires.there
    (c.in_ok-said.ensures.world ∙ ap (λ ms. run S c.args.second ms c.args.world.now) c.in_ok-moves.ensures)

pub returns-clause-events : goal.returns-clause-events
returns-clause-events c =
    c.in_ok-push_keyed.ensures
    ∙ ap (λ xs. c.args.out.now.items ++ keyed c.args.second (phase_code c.args.turn.phase) c.args.turn.number 0 xs) (c.deref.ensures.value ∙ c.in_ok-said.ensures.told ∙ ap (flat_map told) c.in_ok-moves.ensures)
