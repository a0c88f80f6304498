use Rattle.std.proofs.Common.{◌≡◌, ◌∙◌, List, ap, subst}
use Rattle.town.specs.Views.{setup}
use Rattle.traffic.specs.{Rows.World, declared.world.Person.Person}
use Rattle.part_persons.proofs.Beginning.{others_out}
use Rattle.part_persons.specs.Dues.{AreFollowed}
use Rattle.part_persons.proofs.persons.first_wakes.Goals as goal

pub follow_residents-requires-clause-others : goal.follow_residents-requires-clause-others
follow_residents-requires-clause-others c = λ i lt other.
    let same : c.deref.result.now ≡ c.args.world.now.persons = c.deref.ensures.value ∙ ap (λ (W : World). W.persons) c.world.view_is in
    others_out (setup c.args.day.now) c.args.homes.now c.args.partition i c.deref.result.now (same ∙ c.requires.rows) lt other

pub returns-clause-followed : goal.returns-clause-followed
returns-clause-followed c = λ t.
    let end = c.args.day.now.town.now.settings.end_second in
    let same : c.deref.result.now ≡ c.args.world.now.persons = c.deref.ensures.value ∙ ap (λ (W : World). W.persons) c.world.view_is in
    subst (λ (ps : List Person). AreFollowed (setup c.args.day.now) end t ps c.follow_residents.new.wakes) same
    (c.in_ok-follow_residents.ensures.followed t)
