use Rattle.std.proofs.Common.{◌∙◌, refl, arith}
use Rattle.law_in_range.proofs.Days.{one_each}
use Rattle.law_own_seconds.specs.Seconds.{world_crossed}
use Rattle.law_own_worlds.specs.Days.{my_link_turns}
use Rattle.law_parts_of_days.proofs.Beginning.{nodes_of}
use Rattle.part_links.specs.Phase.{IsPhaseBy}
use Rattle.partition.specs.Owned.{owner_in}
use Rattle.town.specs.Views.{setup}
use Rattle.divided_day.specs.Slots.{link_in, slot_count}
use Rattle.part_seconds.proofs.{Driven.able, Driven.turned, Driven.Follows, Driven.follows, Driven.back, area.Area.drive.Goals.In_ok-slots}
use Rattle.part_seconds.proofs.area.Area.drive.Goals as goal

-- what the turns of the links make of them
turned_by : (c : In_ok-slots) →
    let run = c.args.run.now in let S = setup run.day.now in let own = owner_in run.owner.now.of_node in
    let p = c.args.partition in
    IsPhaseBy (link_in S own p) (slot_count S own p) (my_link_turns S own p c.args.second) S run.day.now.town.now.settings.end_second
    c.args.second (world_crossed S own p c.args.second) c.turn_links.new.links.items c.turn_links.new.lines.items c.turn_links.new.wakes
    c.args.told.now.events.items c.turn_links.new.told.events.items c.args.told.now.said.items c.turn_links.new.told.said.items
turned_by c =
    let run = c.args.run.now in
    turned run.day.now (owner_in run.owner.now.of_node) run.owner.now.parts c.args.partition c.args.second run.link_slots.now run.given
    run.owner.now.owned run.slots c.args.self.now c.requires.stands _ _ _ _ _ _ _ c.in_ok-slots.ensures.phase

followed_by : (c : In_ok-slots) →
    let run = c.args.run.now in
    Follows run.day.now (owner_in run.owner.now.of_node) c.args.partition c.args.second c.args.self.now c.turn_links.new.links.items
    c.in_ok-slots.slots.items
followed_by c =
    let run = c.args.run.now in
    follows run.day.now (owner_in run.owner.now.of_node) run.owner.now.parts c.args.partition c.args.second run.link_slots.now run.given
    run.owner.now.owned run.slots c.args.self.now c.requires.stands c.turn_links.new.links.items c.in_ok-slots.slots.items (turned_by c).links
    c.in_ok-slots.ensures.others c.in_ok-slots.ensures.slots

pub turn_links-requires-clause-dwell_in : goal.turn_links-requires-clause-dwell_in
turn_links-requires-clause-dwell_in c = c.args.run.now.day.now.town.now.sound.settings.dwell

pub turn_links-requires-clause-count : goal.turn_links-requires-clause-count
turn_links-requires-clause-count c = c.requires.stands.network.asleep.count

pub turn_links-requires-clause-able : goal.turn_links-requires-clause-able
turn_links-requires-clause-able c =
    let run = c.args.run.now in
    able run.day.now (owner_in run.owner.now.of_node) run.owner.now.parts c.args.partition c.args.second run.link_slots.now run.given
    run.owner.now.owned run.slots c.args.self.now c.requires.stands

pub turn_links-requires-clause-short : goal.turn_links-requires-clause-short
turn_links-requires-clause-short c = c.requires.stands.short

pub settle_links-requires-clause-there : goal.settle_links-requires-clause-there
settle_links-requires-clause-there c =
    (followed_by (goal.at.settle_links-requires-clause-there c).In_ok-slots).there c.deref-2.result.now c.deref.result.now
    c.deref-2.ensures.value c.deref.ensures.value

pub settle_links-requires-clause-links : goal.settle_links-requires-clause-links
settle_links-requires-clause-links c =
    (followed_by (goal.at.settle_links-requires-clause-links c).In_ok-slots).in_town c.deref-2.result.now c.deref-2.ensures.value

pub settle_links-requires-clause-nodes : goal.settle_links-requires-clause-nodes
settle_links-requires-clause-nodes c = c.requires.stands.network.nodes ∙ nodes_of c.args.run.now.day.now

pub take_freed-requires-clause-there : goal.take_freed-requires-clause-there
take_freed-requires-clause-there c =
    (followed_by (goal.at.take_freed-requires-clause-there c).In_ok-slots).there c.deref-4.result.now c.deref-3.result.now
    c.deref-4.ensures.value c.deref-3.ensures.value

pub take_freed-requires-clause-links : goal.take_freed-requires-clause-links
take_freed-requires-clause-links c =
    (followed_by (goal.at.take_freed-requires-clause-links c).In_ok-slots).in_town c.deref-4.result.now c.deref-4.ensures.value

pub take_freed-requires-clause-queues : goal.take_freed-requires-clause-queues
take_freed-requires-clause-queues c =
    (followed_by (goal.at.take_freed-requires-clause-queues c).In_ok-slots).many c.deref-4.result.now _ c.deref-4.ensures.value
    c.deref_mut.ensures.value

pub hear_told-requires-clause-plans : goal.hear_told-requires-clause-plans
hear_told-requires-clause-plans c = one_each c.args.run.now.day.now c.args.self.now.persons.world c.requires.stands.persons.fit

pub returns-clause-stands : goal.returns-clause-stands
returns-clause-stands c =
    let A = c.args.self.now in
    let turn = (goal.at.returns-clause-stands c).In_ok-slots in
    let lists = followed_by turn in
    lists.stands _ _ _ _ _ refl c.requires.silent (turned_by turn)
    (lists.settled c.deref-2.result.now c.deref.result.now A.network.places c.settle_links.new.places c.deref-2.ensures.value
    c.deref.ensures.value c.in_ok-settle_links.ensures.places c.requires.stands.network.places)
    (lists.woken c.deref-2.result.now c.deref.result.now _ c.deref-2.ensures.value c.deref.ensures.value c.in_ok-settle_links.ensures.nodes)
    c.in_ok-slots.ensures.lines c.in_ok-slots.ensures.short
    (back A.queues.len c.take_freed.new.queues _ (let a = c.take_freed.auto.queues in let b = c.deref_mut.ensures.len in omega arith)
    ∙ lists.put c.deref-4.result.now c.deref-3.result.now _ _ c.deref-4.ensures.value c.deref-3.ensures.value c.deref_mut.ensures.value
    c.in_ok-freed.ensures.queues)
    c.in_ok-hear_told.ensures.world c.in_ok-hear_told.ensures.followed c.in_ok-hear_told.ensures.wakes refl

pub returns-clause-events : goal.returns-clause-events
returns-clause-events c = c.in_ok-hear_told.ensures.events ∙ (turned_by (goal.at.returns-clause-events c).In_ok-slots).events

pub returns-clause-freed : goal.returns-clause-freed
returns-clause-freed c =
    (followed_by (goal.at.returns-clause-freed c).In_ok-slots).freed_rows c.deref-4.result.now c.deref-3.result.now _ _
    c.deref-4.ensures.value c.deref-3.ensures.value c.deref_mut.ensures.value c.in_ok-freed.ensures.freed
