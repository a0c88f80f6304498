use Rattle.std.{proofs.Common.◌∙◌, proofs.Common.ap, proofs.Common.sym, proofs.Common.length, proofs.lemmas.List.length-set, specs.Prelude.Some}
use Rattle.town.specs.Views.{setup}
use Rattle.traffic.specs.Rows.{World}
use Rattle.part_persons.proofs.{Following.followed_length, Told.one_followed, Told.idle_followed, Told.riding_idle}
use Rattle.part_persons.proofs.persons.Persons.take_in.Goals as goal

pub returns-clause-followed : goal.returns-clause-followed
returns-clause-followed c = λ t h.
    one_followed (setup c.args.day.now) c.args.day.now.town.now.settings.end_second c.args.person c.args.state c.args.self.now.world.persons _
    c.args.self.now.wakes _ c.requires.wakes (ap (λ (W : World). W.persons) c.put_person.ensures) c.in_ok-follow_in.ensures t h

pub returns-clause-wakes : goal.returns-clause-wakes
returns-clause-wakes c =
    ap length c.in_ok-follow_in.ensures
    ∙ followed_length (setup c.args.day.now) c.args.day.now.town.now.settings.end_second c.put_person.new.world.persons (Some c.args.person)
    c.args.self.now.wakes ∙ c.requires.wakes
    ∙ sym (ap (λ (W : World). length W.persons) c.put_person.ensures ∙ length-set c.args.self.now.world.persons c.args.person c.args.state)

pub returns-then-is_riding-clause-followed : goal.returns-then-is_riding-clause-followed
returns-then-is_riding-clause-followed c = λ t h.
    idle_followed (setup c.args.day.now) c.args.day.now.town.now.settings.end_second t c.args.person c.args.state
    c.args.self.now.world.persons _ c.args.self.now.wakes (riding_idle (setup c.args.day.now) c.args.state (sym c.is_riding.ensures ∙ c.if-is_riding.true))
    (ap (λ (W : World). W.persons) c.put_person.ensures) h

pub returns-then-is_riding-clause-wakes : goal.returns-then-is_riding-clause-wakes
returns-then-is_riding-clause-wakes c =
    c.requires.wakes
    ∙ sym (ap (λ (W : World). length W.persons) c.put_person.ensures ∙ length-set c.args.self.now.world.persons c.args.person c.args.state)
