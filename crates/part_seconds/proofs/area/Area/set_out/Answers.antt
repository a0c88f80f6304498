use Rattle.std.proofs.Common.{◌∙◌, List, ap, refl, arith, ◌+◌, length, map}
use Rattle.traffic.specs.declared.world.{Person.Person, Row.Row}
use Rattle.town.specs.Views.{setup}
use Rattle.law_in_range.proofs.Days.{one_each}
use Rattle.law_own_worlds.specs.Days.{world_before}
use Rattle.part_persons.{proofs.Early.StartedAmong, proofs.Early.started_own, proofs.Early.own_in_range, specs.Own.own_departures}
use Rattle.part_seconds.proofs.{Early.can_come, Early.set_out_stands, Knowing.fit, Knowing.fit_before, Looking.ascending, Looking.not_woken, Looking.stays}
use Rattle.part_seconds.proofs.{SettingOut.HasSetOut, SettingOut.told_is, area.Area.set_out.Goals.In_ok-start_departures}
use Rattle.part_seconds.specs.{Slots.in_slot, Starting.all_started, Starting.woken_for_all}
use Rattle.partition.specs.Owned.{owner_in}
use Rattle.part_seconds.proofs.area.Area.set_out.Goals as goal

-- the departures that are due have started, and with that the part has set out
started_by : (c : In_ok-start_departures) →
    let run = c.args.run.now in
    let S = setup run.day.now in
    StartedAmong S c.args.second (own_departures S (owner_in run.owner.now.of_node) c.args.partition) c.land_and_leave.new.self.world
    c.start_departures.new.self.world c.land_and_leave.new.events.items c.start_departures.new.events.items
started_by c =
    let run = c.args.run.now in
    started_own (setup run.day.now) (owner_in run.owner.now.of_node) c.args.partition c.args.second _ c.land_and_leave.new.self.world
    c.start_departures.new.self.world c.land_and_leave.new.events.items c.start_departures.new.events.items
    (c.requires.stands.departures c.args.second (omega arith) c.requires.in_day) c.in_ok-start_departures.ensures.world
    c.in_ok-start_departures.ensures.events

set_out_by : (c : In_ok-start_departures) →
    let run = c.args.run.now in
    let S = setup run.day.now in
    let own = owner_in run.owner.now.of_node in
    HasSetOut S own c.args.partition c.args.second (world_before S own c.args.partition c.args.second) c.args.self.now.persons.world
    c.land_and_leave.new.self.world c.start_departures.new.self.world
set_out_by c = record {
  first = c.in_ok-numbers.ensures.world;
  second = (started_by c).world;
  persons = c.requires.stands.persons.persons;
  rows = c.requires.stands.persons.rows;
}

pub start_departures-requires-clause-there : goal.start_departures-requires-clause-there
start_departures-requires-clause-there c =
    own_in_range (setup c.args.run.now.day.now) (owner_in c.args.run.now.owner.now.of_node) c.args.partition c.args.second _
    (c.requires.stands.departures c.args.second (omega arith) c.requires.in_day)

pub come_to_lines-requires-clause-plans : goal.come_to_lines-requires-clause-plans
come_to_lines-requires-clause-plans c = one_each c.args.run.now.day.now c.start_departures.new.self.world c.in_ok-start_departures.ensures.fit

pub come_to_lines-requires-clause-can : goal.come_to_lines-requires-clause-can
come_to_lines-requires-clause-can c =
    let day = c.args.run.now.day.now in
    let S = setup day in
    let own = owner_in c.args.run.now.owner.now.of_node in
    let t = c.args.second in
    can_come day own c.args.run.now.owner.now.parts c.args.partition t c.args.run.now.link_slots.now c.args.run.now.given
    c.args.run.now.owner.now.owned c.args.run.now.slots c.requires.in_day c.args.self.now c.requires.stands c.land_and_leave.new.self.world
    c.start_departures.new.self.world c.deref.result.now (set_out_by (goal.at.come_to_lines-requires-clause-can c).In_ok-start_departures)
    (c.deref.ensures.value ∙ c.in_ok-numbers.ensures.due) c.in_ok-start_departures.ensures.fit

pub returns-clause-events : goal.returns-clause-events
returns-clause-events c =
    let S = setup c.args.run.now.day.now in
    let own = owner_in c.args.run.now.owner.now.of_node in
    let t = c.args.second in
    let p = c.args.partition in
    told_is S own p t (world_before S own p t) c.args.self.now.persons.world c.land_and_leave.new.self.world
    c.start_departures.new.self.world (set_out_by (goal.at.returns-clause-events c).In_ok-start_departures) c.args.events.now.items
    c.land_and_leave.new.events.items c.start_departures.new.events.items c.in_ok-numbers.ensures.events
    (started_by (goal.at.returns-clause-events c).In_ok-start_departures).events

pub returns-clause-stands : goal.returns-clause-stands
returns-clause-stands c =
    let day = c.args.run.now.day.now in
    let S = setup day in
    let own = owner_in c.args.run.now.owner.now.of_node in
    let t = c.args.second in
    let placed = c.in_ok-rows.ensures ∙ ap (λ (rs : List Row). map (in_slot c.args.run.now.link_slots.now) rs) c.take_rows-started.ensures.rows in
    set_out_stands day own c.args.run.now.owner.now.parts c.args.partition t c.args.run.now.link_slots.now c.args.run.now.given
    c.args.run.now.owner.now.owned c.args.run.now.slots c.requires.in_day c.args.self.now c.requires.stands c.land_and_leave.new.self.world
    c.start_departures.new.self.world c.deref.result.now (set_out_by (goal.at.returns-clause-stands c).In_ok-start_departures)
    (c.deref.ensures.value ∙ c.in_ok-numbers.ensures.due) c.in_ok-start_departures.ensures.fit _ c.take_rows-started.ensures.left
    (c.in_ok-start_departures.ensures.followed (t + 1) c.in_ok-numbers.ensures.followed) c.in_ok-start_departures.ensures.wakes
    c.in_ok-start_departures.ensures.rest c.in_ok-come_to_lines.ensures
    (c.in_ok-come_to_links.ensures.links ∙ ap (λ (rs : List Row). all_started rs c.args.self.now.network.links.items) placed)
    (c.in_ok-come_to_links.ensures.wakes ∙ ap (λ (rs : List Row). woken_for_all t rs c.args.self.now.network.link_wakes) placed)
    refl refl refl

pub returns-clause-looked : goal.returns-clause-looked
returns-clause-looked c =
    let day = c.args.run.now.day.now in
    let S = setup day in
    let own = owner_in c.args.run.now.owner.now.of_node in
    let V = world_before S own c.args.partition c.args.second in
    let a = c.requires.stands.persons.looks in
    let b = ap (λ (ps : List Person). length ps) c.requires.stands.persons.persons in
    let e = (fit_before day own c.args.run.now.owner.now.parts c.args.partition c.args.second c.args.run.now.given
    c.args.run.now.owner.now.owned).one_each in
    let n = (fit day own c.args.run.now.owner.now.parts c.args.partition c.args.second c.args.run.now.given
    c.args.run.now.owner.now.owned).persons in
    ascending c.args.second (length S.persons) c.args.self.now.persons.wakes _ c.in_ok-numbers.ensures.due (omega arith)

pub returns-clause-others : goal.returns-clause-others
returns-clause-others c = λ i off.
    let S = setup c.args.run.now.day.now in
    let own = owner_in c.args.run.now.owner.now.of_node in
    let t = c.args.second in
    let p = c.args.partition in
    stays S own p t i (world_before S own p t) c.args.self.now.persons.world c.land_and_leave.new.self.world
    c.start_departures.new.self.world (set_out_by (goal.at.returns-clause-others c).In_ok-start_departures)
    (c.in_ok-numbers.ensures.others i (not_woken t i c.args.self.now.persons.wakes _ c.in_ok-numbers.ensures.due off))
