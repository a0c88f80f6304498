use Rattle.std.proofs.Common.{◌≤◌, ℕ, List, ◌∙◌, ap, refl, sym, subst, length, arith}
use Rattle.std.proofs.lemmas.List.{length-map}
use Rattle.limits.specs.declared.TheConstants.{MAX_IN_LINKS}
use Rattle.law_in_range.{proofs.Days.chosen_fit, proofs.Towns.town_fit, specs.Setups.counts_in}
use Rattle.town.specs.Views.{setup}
use Rattle.node_seconds.specs.Networks.{AreOnce}
use Rattle.traffic.specs.Setup.{into}
use Rattle.part_nodes.proofs.{Buffered.few_some, Buffered.once_some, Passed.passed_on, Ready.few_slots, Ready.once_slots, Ready.ready_into, Ready.some_in}
use Rattle.part_nodes.proofs.{Rested.buffered_there, Rested.emptied_length, Slots.stand_numbered, Slots.apart_in}
use Rattle.part_nodes.specs.{InLinks.slots_of, Turns.AreThere, Turns.is_buffered}
use Rattle.part_nodes.proofs.node_turns.pass_fronts.Goals as goal

pub node_second-requires-clause-second_in : goal.node_second-requires-clause-second_in
node_second-requires-clause-second_in c = omega (arith, c.turn_of-turn.ensures.second, c.requires.second_in)

pub node_second-requires-clause-few : goal.node_second-requires-clause-few
node_second-requires-clause-few c =
    let day = c.args.phase.now.day.now in
    let slots = c.args.phase.now.link_slots.now in
    subst (λ (ks : List ℕ). length ks ≤ MAX_IN_LINKS) (sym c.requires.into) (
    let a = few_some (is_buffered c.args.links.now) (slots_of slots (into (setup day) c.args.node)) in
    let b = few_slots day slots c.args.node in omega arith)

pub node_second-requires-clause-lit : goal.node_second-requires-clause-lit
node_second-requires-clause-lit c = ap length c.requires.lit ∙ length-map c.args.fronts.now.slots.now _

pub node_second-requires-clause-there : goal.node_second-requires-clause-there
node_second-requires-clause-there c =
    let r = c.requires.stand in
    some_in (setup c.args.phase.now.day.now) r.extent c.args.phase.now.link_slots.now c.args.node (length c.args.links.now)
    (is_buffered c.args.links.now) c.args.fronts.now.slots.now r.links_stand.stand.count c.requires.into r.has r.node

pub node_second-requires-clause-once : goal.node_second-requires-clause-once
node_second-requires-clause-once c =
    let r = c.requires.stand in
    let S = setup c.args.phase.now.day.now in
    let slots = c.args.phase.now.link_slots.now in
    subst AreOnce (sym c.requires.into)
    (once_some (is_buffered c.args.links.now) (slots_of slots (into S c.args.node)) (once_slots S r.extent slots c.args.node r.has r.node))

pub node_second-requires-clause-apart : goal.node_second-requires-clause-apart
node_second-requires-clause-apart c =
    let r = c.requires.stand in
    let S = setup c.args.phase.now.day.now in
    let slots = c.args.phase.now.link_slots.now in
    let p = is_buffered c.args.links.now in
    let once = subst AreOnce (sym c.requires.into) (once_some p (slots_of slots (into S c.args.node)) (once_slots S r.extent slots c.args.node r.has r.node)) in
    apart_in S r.extent c.args.links.now c.args.fronts.now.slots.now r.has.numbered
    (stand_numbered r.extent S c.args.phase.now.second c.args.links.now r.world r.links_stand.stand)
    (some_in S r.extent slots c.args.node r.extent.size p c.args.fronts.now.slots.now refl c.requires.into r.has r.node) once

pub node_second-requires-clause-ready : goal.node_second-requires-clause-ready
node_second-requires-clause-ready c =
    let r = c.requires.stand in
    let S = setup c.args.phase.now.day.now in
    let slots = c.args.phase.now.link_slots.now in
    ready_into (counts_in c.args.phase.now.day.now) r.extent S c.args.phase.now.second c.args.links.now r.world c.args.fronts.now.slots.now
    r.links_stand.fit r.links_stand.stand
    (some_in S r.extent slots c.args.node r.extent.size (is_buffered c.args.links.now) c.args.fronts.now.slots.now refl c.requires.into r.has r.node)

pub wake_all_emptied-requires-clause-there : goal.wake_all_emptied-requires-clause-there
wake_all_emptied-requires-clause-there c =
    let r = c.requires.stand in
    let S = setup c.args.phase.now.day.now in
    let slots = c.args.phase.now.link_slots.now in
    let count = length c.node_second.new.links in
    subst (AreThere count) (sym c.requires.counted)
    (buffered_there count c.args.links.now c.args.fronts.now.slots.now
    (some_in S r.extent slots c.args.node count (is_buffered c.args.links.now) c.args.fronts.now.slots.now
    (c.node_second.auto.links ∙ r.links_stand.stand.count) c.requires.into r.has r.node))

pub wake_all_emptied-requires-clause-count : goal.wake_all_emptied-requires-clause-count
wake_all_emptied-requires-clause-count c = c.requires.stand.links_stand.asleep.count ∙ sym c.node_second.auto.links

pub enter_links-requires-clause-wakes : goal.enter_links-requires-clause-wakes
enter_links-requires-clause-wakes c =
    ap length c.in_ok-wake_all_emptied.ensures ∙ emptied_length c.args.phase.now.second c.args.fronts.now.buffered.now c.node_second.new.links c.args.wakes.now
    ∙ c.requires.stand.links_stand.asleep.count ∙ sym c.node_second.auto.links

pub returns-clause-passed : goal.returns-clause-passed
returns-clause-passed c = λ E V has own h.
    let day = c.args.phase.now.day.now in
    passed_on (counts_in day) (setup day) E day.town.now.settings.end_second c.args.phase.now.second c.args.node V c.args.phase.now.link_slots.now
    c.args.links.now c.args.wakes.now c.args.space.now c.turn_of-turn.result c.args.fronts.now.slots.now c.args.fronts.now.greens.now
    c.args.fronts.now.buffered.now c.node_second.new.links c.wake_all_emptied.new.wakes c.in_ok-entering.entering.items c.enter_links.new.links
    c.enter_links.new.wakes c.node_second.new.space c.new-said.result.items c.node_second.new.said.items c.args.out.now.items
    c.enter_links.new.out.items has own c.requires.in_day (town_fit day (chosen_fit day c.requires.given)) c.turn_of-turn.ensures
    c.requires.into c.requires.lit c.requires.counted c.node_second.auto.links c.new-said.ensures.items c.in_ok-entering.ensures
    c.in_ok-wake_all_emptied.ensures c.in_ok-enter_links.ensures.links c.in_ok-enter_links.ensures.wakes c.in_ok-enter_links.ensures.out h

pub returns-clause-holes : goal.returns-clause-holes
returns-clause-holes c = c.in_ok-entering.ensures.holes
