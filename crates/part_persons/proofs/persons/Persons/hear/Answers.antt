use Rattle.std.proofs.Common.{◌∙◌, sym}
use Rattle.town.specs.Views.{setup}
use Rattle.part_persons.proofs.Told.{heard_stay, heard_followed, heard_wakes}
use Rattle.part_persons.proofs.persons.Persons.hear.Goals as goal

pub follow_told-requires-clause-plans : goal.follow_told-requires-clause-plans
follow_told-requires-clause-plans c =
    heard_stay (setup c.args.day.now) c.args.second c.args.said.now c.args.self.now.world _ c.in_ok-step_in.ensures ∙ c.requires.plans

pub follow_told-requires-clause-wakes : goal.follow_told-requires-clause-wakes
follow_told-requires-clause-wakes c =
    c.requires.wakes ∙ sym (heard_stay (setup c.args.day.now) c.args.second c.args.said.now c.args.self.now.world _ c.in_ok-step_in.ensures)

pub returns-clause-followed : goal.returns-clause-followed
returns-clause-followed c = λ t h.
    heard_followed (setup c.args.day.now) c.args.day.now.town.now.settings.end_second c.args.second t c.args.said.now c.args.self.now.world _ _ _
    c.requires.wakes c.in_ok-step_in.ensures c.in_ok-follow_told.ensures h

pub returns-clause-wakes : goal.returns-clause-wakes
returns-clause-wakes c =
    heard_wakes (setup c.args.day.now) c.args.day.now.town.now.settings.end_second c.args.second c.args.said.now c.args.self.now.world _ _ _
    c.requires.wakes c.in_ok-step_in.ensures c.in_ok-follow_told.ensures
