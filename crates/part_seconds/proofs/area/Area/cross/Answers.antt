use Rattle.std.proofs.Common.{◌∙◌, ap, sym, refl, length}
use Rattle.law_in_range.{proofs.Days.one_each, specs.Setups.counts_in}
use Rattle.law_own_seconds.specs.Seconds.{held_early, world_early}
use Rattle.law_parts_of_days.proofs.Beginning.{nodes_of}
use Rattle.part_nodes.specs.Phase.{IsPhaseAt}
use Rattle.part_places.specs.Taking.{begins_here, times}
use Rattle.partition.specs.Owned.{owner_in}
use Rattle.town.specs.Views.{setup}
use Rattle.part_seconds.proofs.{Crossed.freed_network, Crossed.Begins, Crossed.begins, Slots.has_links, area.Area.cross.Goals.In_ok-wake_starts}
use Rattle.part_seconds.{proofs.area.Area.cross.Goals.In_ok-move_nodes, specs.Settling.places_known, specs.Slots.extent_of}
use Rattle.part_seconds.proofs.area.Area.cross.Goals as goal

-- once the places of the second are free
begun_by : (c : In_ok-wake_starts) →
    let run = c.args.run.now in
    Begins run.day.now (owner_in run.owner.now.of_node) c.args.partition c.args.second c.args.self.now c.free.new.self
    c.wake_starts.new.node_wakes
begun_by c =
    let run = c.args.run.now in
    let day = run.day.now in
    let S = setup day in
    let own = owner_in run.owner.now.of_node in
    let p = c.args.partition in
    let t = c.args.second in
    let end = day.town.now.settings.end_second in
    let h = c.requires.stands in
    let T = places_known S (held_early S own p t) in
    begins day own run.owner.now.parts p t run.link_slots.now run.given run.owner.now.owned run.slots c.args.self.now h c.free.new.self
    c.deref.result.now c.wake_starts.new.node_wakes
    (c.in_ok-freed.ensures.places (begins_here S own p) (length S.links) end T c.requires.in_day h.network.places) c.in_ok-wake_starts.ensures
    (λ m lt b none. c.in_ok-freed.ensures.full (begins_here S own p) (length S.links) end T c.requires.in_day h.network.places m lt b
    (ap (times m) (sym c.deref.ensures.value) ∙ none))

-- once the nodes had their turns
crossed_by : (c : In_ok-move_nodes) →
    let run = c.args.run.now in
    let S = setup run.day.now in
    let own = owner_in run.owner.now.of_node in
    Begins run.day.now own c.args.partition c.args.second c.args.self.now c.free.new.self c.wake_starts.new.node_wakes
    → IsPhaseAt (counts_in run.day.now) S (extent_of S own c.args.partition) run.day.now.town.now.settings.end_second c.args.second
    (world_early S own c.args.partition c.args.second) (freed_network c.args.self.now c.free.new.self c.wake_starts.new.node_wakes)
    c.move_nodes.new.network c.args.told.now.events.items c.move_nodes.new.told.events.items c.args.told.now.said.items
    c.move_nodes.new.told.said.items c.args.out.now.items c.move_nodes.new.out.items
crossed_by c begun =
    let run = c.args.run.now in
    let S = setup run.day.now in
    let own = owner_in run.owner.now.of_node in
    let p = c.args.partition in
    c.in_ok-move_nodes.ensures (extent_of S own p) (world_early S own p c.args.second) (has_links S own p run.link_slots.now run.slots)
    begun.stands begun.awaited

pub wake_starts-requires : goal.wake_starts-requires
wake_starts-requires c = c.requires.stands.network.nodes ∙ nodes_of c.args.run.now.day.now

pub move_nodes-requires-clause-given : goal.move_nodes-requires-clause-given
move_nodes-requires-clause-given c = c.args.run.now.given

pub move_nodes-requires-clause-nodes : goal.move_nodes-requires-clause-nodes
move_nodes-requires-clause-nodes c = c.args.run.now.into.nodes

pub move_nodes-requires-clause-into : goal.move_nodes-requires-clause-into
move_nodes-requires-clause-into c = c.args.run.now.into.each

pub move_nodes-requires-clause-stands : goal.move_nodes-requires-clause-stands
move_nodes-requires-clause-stands c =
    let run = c.args.run.now in
    let S = setup run.day.now in
    let own = owner_in run.owner.now.of_node in
    let p = c.args.partition in
    record {
      extent = extent_of S own p;
      world = world_early S own p c.args.second;
      has = has_links S own p run.link_slots.now run.slots;
      own = tt;
      stands = (begun_by (goal.at.move_nodes-requires-clause-stands c).In_ok-wake_starts).stands;
    }

pub hear_told-requires-clause-plans : goal.hear_told-requires-clause-plans
hear_told-requires-clause-plans c = one_each c.args.run.now.day.now c.args.self.now.persons.world c.requires.stands.persons.fit

pub returns-clause-stands : goal.returns-clause-stands
returns-clause-stands c =
    let places = goal.at.returns-clause-stands c in
    let begun = begun_by places.In_ok-wake_starts in
    begun.crossed _ _ _ _ _ _ _ c.requires.silent (crossed_by places.In_ok-move_nodes begun) c.in_ok-hear_told.ensures.world
    c.in_ok-hear_told.ensures.followed c.in_ok-hear_told.ensures.wakes refl refl refl

pub returns-clause-events : goal.returns-clause-events
returns-clause-events c =
    let places = goal.at.returns-clause-events c in
    c.in_ok-hear_told.ensures.events ∙ (crossed_by places.In_ok-move_nodes (begun_by places.In_ok-wake_starts)).events

pub returns-clause-out : goal.returns-clause-out
returns-clause-out c =
    let places = goal.at.returns-clause-out c in
    (crossed_by places.In_ok-move_nodes (begun_by places.In_ok-wake_starts)).gone
