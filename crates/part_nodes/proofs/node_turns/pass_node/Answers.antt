use Rattle.std.proofs.Common.{◌∙◌, [], ◌∷◌, Bool, ℕ, ap, sym, length}
use Rattle.std.specs.Prelude.{filter, map}
use Rattle.town.specs.Views.{setup}
use Rattle.part_nodes.proofs.{Only.alone_is, Ready.slots_in, Ready.some_in, Ready.town_numbers}
use Rattle.part_nodes.specs.{Turns.is_buffered, Turns.buffered_in, Turns.lights_of, declared.node_turns.Buffered.Buffered}
use Rattle.part_nodes.proofs.node_turns.pass_node.Goals as goal

pub only_buffered-requires : goal.only_buffered-requires
only_buffered-requires c =
    let r = c.requires.stand in
    slots_in (setup c.args.phase.now.day.now) r.extent c.args.phase.now.link_slots.now c.args.node (length c.args.links.now) c.args.slots.now
    r.links_stand.stand.count c.requires.into r.has r.node

pub number_at-requires : goal.number_at-requires
number_at-requires c =
    let r = c.requires.stand in
    let p = is_buffered c.args.links.now in
    (some_in (setup c.args.phase.now.day.now) r.extent c.args.phase.now.link_slots.now c.args.node (length c.args.links.now) p (c.in-Some.slot ∷ [])
    r.links_stand.stand.count (alone_is c.in-Some.slot (filter p c.args.slots.now) c.in-Some.ensures ∙ ap (filter p) c.requires.into) r.has r.node).0

pub is_green-green-requires-clause-there : goal.is_green-green-requires-clause-there
is_green-green-requires-clause-there c =
    let r = c.requires.stand in
    let day = c.args.phase.now.day.now in
    let p = is_buffered c.args.links.now in
    let there = (some_in (setup day) r.extent c.args.phase.now.link_slots.now c.args.node (length c.args.links.now) p (c.in-Some.slot ∷ [])
    r.links_stand.stand.count (alone_is c.in-Some.slot (filter p c.args.slots.now) c.in-Some.ensures ∙ ap (filter p) c.requires.into) r.has r.node).0 in
    let lt = town_numbers day r.extent c.args.phase.now.second c.args.phase.now.link_slots.now c.args.links.now r.world r.has r.links_stand.stand
    c.in-Some.slot there in
    rw c.number_at.ensures lt

pub buffered_in-buffered-requires : goal.buffered_in-buffered-requires
buffered_in-buffered-requires c =
    let r = c.requires.stand in
    let p = is_buffered c.args.links.now in
    (some_in (setup c.args.phase.now.day.now) r.extent c.args.phase.now.link_slots.now c.args.node (length c.args.links.now) p (c.in-Some.slot ∷ [])
    r.links_stand.stand.count (alone_is c.in-Some.slot (filter p c.args.slots.now) c.in-Some.ensures ∙ ap (filter p) c.requires.into) r.has r.node).0

pub buffered_ones-requires : goal.buffered_ones-requires
buffered_ones-requires c =
    let r = c.requires.stand in
    slots_in (setup c.args.phase.now.day.now) r.extent c.args.phase.now.link_slots.now c.args.node (length c.args.links.now) c.args.slots.now
    r.links_stand.stand.count c.requires.into r.has r.node

pub lights-requires-clause-there : goal.lights-requires-clause-there
lights-requires-clause-there c =
    let r = c.requires.stand in
    let p = is_buffered c.args.links.now in
    some_in (setup c.args.phase.now.day.now) r.extent c.args.phase.now.link_slots.now c.args.node (length c.args.links.now) p c.deref.result.now
    r.links_stand.stand.count (c.deref.ensures.value ∙ c.in_ok-some-in-None.ensures ∙ ap (filter p) c.requires.into) r.has r.node

pub lights-requires-clause-known : goal.lights-requires-clause-known
lights-requires-clause-known c =
    let r = c.requires.stand in
    town_numbers c.args.phase.now.day.now r.extent c.args.phase.now.second c.args.phase.now.link_slots.now c.args.links.now r.world r.has r.links_stand.stand

pub buffers_of-requires : goal.buffers_of-requires
buffers_of-requires c =
    let r = c.requires.stand in
    let p = is_buffered c.args.links.now in
    some_in (setup c.args.phase.now.day.now) r.extent c.args.phase.now.link_slots.now c.args.node (length c.args.links.now) p c.deref-in-None.result.now
    r.links_stand.stand.count (c.deref-in-None.ensures.value ∙ c.in_ok-some-in-None.ensures ∙ ap (filter p) c.requires.into) r.has r.node

pub pass_fronts-requires-clause-into : goal.pass_fronts-requires-clause-into
pass_fronts-requires-clause-into c =
    let p = is_buffered c.args.links.now in
    c.from_ref.ensures.value ∙ alone_is c.in-Some.slot (filter p c.args.slots.now) c.in-Some.ensures ∙ ap (filter p) c.requires.into

pub pass_fronts-requires-clause-lit : goal.pass_fronts-requires-clause-lit
pass_fronts-requires-clause-lit c =
    let S = setup c.args.phase.now.day.now in
    let t = c.args.phase.now.second in
    c.from_ref-in-Some.ensures.value ∙ ap (λ (green : Bool). green ∷ []) c.is_green-green.ensures
    ∙ ap (λ (l : ℕ). S.green l t ∷ []) c.number_at.ensures ∙ ap (lights_of S t c.args.links.now) (sym c.from_ref.ensures.value)

pub pass_fronts-requires-clause-counted : goal.pass_fronts-requires-clause-counted
pass_fronts-requires-clause-counted c =
    c.from_ref-in-Some-2.ensures.value ∙ ap (λ (b : Buffered). b ∷ []) c.buffered_in-buffered.ensures
    ∙ ap (map (buffered_in c.args.links.now)) (sym c.from_ref.ensures.value)

pub pass_fronts-requires-in-None-clause-into : goal.pass_fronts-requires-in-None-clause-into
pass_fronts-requires-in-None-clause-into c =
    let p = is_buffered c.args.links.now in
    c.deref-in-None-2.ensures.value ∙ c.in_ok-some-in-None.ensures ∙ ap (filter p) c.requires.into

pub pass_fronts-requires-in-None-clause-lit : goal.pass_fronts-requires-in-None-clause-lit
pass_fronts-requires-in-None-clause-lit c =
    c.deref-in-None-3.ensures.value ∙ c.in_ok-greens-in-None.ensures
    ∙ ap (lights_of (setup c.args.phase.now.day.now) c.args.phase.now.second c.args.links.now)
    (c.deref.ensures.value ∙ sym c.deref-in-None-2.ensures.value)

pub pass_fronts-requires-in-None-clause-counted : goal.pass_fronts-requires-in-None-clause-counted
pass_fronts-requires-in-None-clause-counted c =
    c.deref-in-None-4.ensures.value ∙ c.in_ok-buffered-in-None.ensures
    ∙ ap (map (buffered_in c.args.links.now)) (c.deref-in-None.ensures.value ∙ sym c.deref-in-None-2.ensures.value)
