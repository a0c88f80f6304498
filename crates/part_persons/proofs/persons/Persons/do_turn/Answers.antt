use Rattle.std.{proofs.Common.◌∙◌, proofs.Common.ap, proofs.Common.◌++◌, proofs.Common.sym, specs.List.flat_map}
use Rattle.town.specs.Views.{setup}
use Rattle.traffic.specs.Moves.{told}
use Rattle.part_persons.proofs.Told.{followed_by, wakes_by, persons_stay}
use Rattle.part_persons.proofs.persons.Persons.do_turn.Goals as goal

pub follow_told-requires-clause-plans : goal.follow_told-requires-clause-plans
follow_told-requires-clause-plans c =
    persons_stay (setup c.args.day.now) c.args.turn.second c.args.moves.items c.args.self.now.world _ c.in_ok-do_moves.ensures.world ∙ c.requires.plans

pub follow_told-requires-clause-wakes : goal.follow_told-requires-clause-wakes
follow_told-requires-clause-wakes c =
    c.requires.wakes
    ∙ sym (persons_stay (setup c.args.day.now) c.args.turn.second c.args.moves.items c.args.self.now.world _ c.in_ok-do_moves.ensures.world)

pub returns-clause-followed : goal.returns-clause-followed
returns-clause-followed c = λ t h.
    followed_by (setup c.args.day.now) c.args.day.now.town.now.settings.end_second c.args.turn.second t c.args.moves.items _ c.args.self.now.world _ _ _
    c.requires.wakes c.in_ok-do_moves.ensures.world
    (c.deref.ensures.value ∙ c.in_ok-do_moves.ensures.told ∙ ap (λ xs. xs ++ flat_map told c.args.moves.items) c.new-said.ensures.items)
    c.in_ok-follow_told.ensures h

pub returns-clause-wakes : goal.returns-clause-wakes
returns-clause-wakes c =
    wakes_by (setup c.args.day.now) c.args.day.now.town.now.settings.end_second c.args.turn.second c.args.moves.items _ c.args.self.now.world _ _ _
    c.requires.wakes c.in_ok-do_moves.ensures.world c.in_ok-follow_told.ensures
