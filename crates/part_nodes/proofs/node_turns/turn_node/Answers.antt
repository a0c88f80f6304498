use Rattle.std.proofs.Common.{◌≡◌, List, ◌∙◌, ◌++◌, ap, refl, sym, subst, length, arith}
use Rattle.std.{proofs.lemmas.List.with_items_is, specs.Vec.with_items}
use Rattle.events.specs.declared.event.Phase.TheVariants as phase
use Rattle.events.specs.Keys.{phase_code}
use Rattle.law_in_range.specs.Setups.{counts_in}
use Rattle.town.specs.Views.{setup}
use Rattle.traffic.specs.{Day.keyed, declared.moves.Occurrence.Occurrence}
use Rattle.queue_link.specs.Links.{LinkView}
use Rattle.part_links.specs.Phase.{of_persons}
use Rattle.part_nodes.proofs.{Held.stuck_of, Held.green_of, Passed.turned, Ready.slots_in, Ready.town_numbers}
use Rattle.part_nodes.specs.{Phase.LinksStandFor, Turns.always_in, Turns.HaveNumbersIn, declared.network.NetworkState.NetworkState}
use Rattle.part_nodes.proofs.node_turns.turn_node.Goals as goal

pub pass_node-requires-clause-stand : goal.pass_node-requires-clause-stand
pass_node-requires-clause-stand c =
    let day = c.args.phase.now.day.now in
    let N = c.args.network.now in
    let r = c.requires.stands in
    record {
      extent = r.extent;
      world = r.world;
      has = r.has;
      node = r.own.0;
      links_stand = subst (λ (xs : List LinkView). LinksStandFor (counts_in day) (setup day) r.extent day.town.now.settings.end_second
          c.args.phase.now.second xs N.link_wakes N.places.space r.world) (sym c.deref_mut.ensures.value) r.stands.links;
    }

pub wake_again-requires-clause-node : goal.wake_again-requires-clause-node
wake_again-requires-clause-node c = let nodes = c.requires.stands.stands.nodes in let lt = c.requires.there in omega arith

pub wake_again-requires-clause-there : goal.wake_again-requires-clause-there
wake_again-requires-clause-there c =
    let links = c.args.network.now.links in
    let seen = c.deref.result.now in
    let r = c.requires.stands in
    let long : length c.pass_node.new.links ≡ links.len = (let a = c.pass_node.auto.links in let b = c.deref_mut.ensures.len in omega arith) in
    let is : seen ≡ c.pass_node.new.links = c.deref.ensures.value ∙ with_items_is links c.pass_node.new.links long in
    slots_in (setup c.args.phase.now.day.now) r.extent c.args.phase.now.link_slots.now c.args.node (length seen) c.args.slots.now
    (ap length is ∙ c.pass_node.auto.links ∙ ap length c.deref_mut.ensures.value ∙ r.stands.links.stand.count) c.requires.into r.has r.own.0

pub wake_again-requires-clause-known : goal.wake_again-requires-clause-known
wake_again-requires-clause-known c =
    let day = c.args.phase.now.day.now in
    let N = c.args.network.now in
    let r = c.requires.stands in
    let links = N.links in
    let long : length c.pass_node.new.links ≡ links.len = (let a = c.pass_node.auto.links in let b = c.deref_mut.ensures.len in omega arith) in
    let is : c.deref.result.now ≡ c.pass_node.new.links = c.deref.ensures.value ∙ with_items_is links c.pass_node.new.links long in
    let stand = subst (λ (xs : List LinkView). LinksStandFor (counts_in day) (setup day) r.extent day.town.now.settings.end_second
    c.args.phase.now.second xs N.link_wakes N.places.space r.world) (sym c.deref_mut.ensures.value) r.stands.links in
    let p = c.in_ok-said.ensures.passed r.extent r.world r.has r.own.0 stand in
    subst (HaveNumbersIn (length day.town.now.network.links)) (sym is)
    (town_numbers day r.extent c.args.phase.now.second c.args.phase.now.link_slots.now c.pass_node.new.links _ r.has p.stand.stand)

pub returns : goal.returns
returns c = λ E V has own h.
    let day = c.args.phase.now.day.now in
    let N = c.args.network.now in
    let new : NetworkState = record {
      links = with_items N.links c.pass_node.new.links;
      places = record N.places { space = c.pass_node.new.space };
      link_wakes = c.pass_node.new.wakes;
      node_wakes = c.wake_again.new.wakes;
    } in
    let long : length c.pass_node.new.links ≡ N.links.len = (let a = c.pass_node.auto.links in let b = c.deref_mut.ensures.len in omega arith) in
    let is : new.links.items ≡ c.pass_node.new.links = with_items_is N.links c.pass_node.new.links long in
    let seen : c.deref.result.now ≡ c.pass_node.new.links = c.deref.ensures.value ∙ is in
    let stand = subst (λ (xs : List LinkView). LinksStandFor (counts_in day) (setup day) E day.town.now.settings.end_second
    c.args.phase.now.second xs N.link_wakes N.places.space V) (sym c.deref_mut.ensures.value) h.links in
    let first = c.args.told.now.events.items in
    let spoken = c.args.told.now.said.items in
    let now = c.in_ok-said.said.items in
    turned (counts_in day) (setup day) E day.town.now.settings.end_second c.args.phase.now.second c.args.node V c.args.phase.now.link_slots.now N new
    c.args.slots.now c.deref.result.now c.pass_node.new.links day.town.now.settings.stuck (always_in day.town.now.greens) first
    c.append.new.self.events.items spoken c.append.new.self.said.items now c.args.out.now.items c.pass_node.new.out.items has own
    (c.in_ok-said.ensures.passed E V has own stand) h.nodes h.only c.requires.there c.requires.into is seen c.in_ok-said.ensures.holes refl
    c.requires.in_day
    (stuck_of day) (green_of day) c.in_ok-wake_again.ensures
    (c.in_ok-append.ensures.events
    ∙ ap (λ (xs : List Occurrence). first ++ keyed c.args.phase.now.second (phase_code phase.C) c.args.node 0 xs) c.deref-2.ensures.value)
    (c.in_ok-append.ensures.said ∙ ap (λ (xs : List Occurrence). spoken ++ of_persons xs) c.deref-2.ensures.value)
