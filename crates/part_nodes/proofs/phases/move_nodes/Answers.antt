use Rattle.std.proofs.Common.{◌∙◌, refl}
use Rattle.law_in_range.specs.Setups.{counts_in}
use Rattle.town.specs.Views.{setup}
use Rattle.part_nodes.specs.declared.network.NetworkState.{NetworkState}
use Rattle.part_nodes.proofs.Skipped.{all_turned, woken_there, woken_once, woken_mine, stands_with}
use Rattle.part_nodes.proofs.phases.move_nodes.Goals as goal

pub turn_nodes-requires-clause-there : goal.turn_nodes-requires-clause-there
turn_nodes-requires-clause-there c =
    woken_there c.args.phase.now.second (setup c.args.phase.now.day.now).nodes c.args.network.now.node_wakes _ c.requires.stands.stands.nodes
    (c.deref.ensures.value ∙ c.in_ok-numbers.ensures.woken)

pub turn_nodes-requires-clause-once : goal.turn_nodes-requires-clause-once
turn_nodes-requires-clause-once c =
    woken_once c.args.phase.now.second (setup c.args.phase.now.day.now).nodes c.args.network.now.node_wakes _ c.requires.stands.stands.nodes
    (c.deref.ensures.value ∙ c.in_ok-numbers.ensures.woken)

pub turn_nodes-requires-clause-stands : goal.turn_nodes-requires-clause-stands
turn_nodes-requires-clause-stands c =
    let day = c.args.phase.now.day.now in
    let N = c.args.network.now in
    let t = c.args.phase.now.second in
    let r = c.requires.stands in
    let M : NetworkState = record N { node_wakes = c.take.new.self } in
    record {
      extent = r.extent;
      world = r.world;
      has = r.has;
      own = woken_mine r.extent t (setup day).nodes N.node_wakes _ r.stands.nodes r.stands.only (c.deref.ensures.value ∙ c.in_ok-numbers.ensures.woken);
      stands = stands_with (counts_in day) (setup day) r.extent day.town.now.settings.end_second t r.world N M c.take.new.self refl
          c.in_ok-numbers.ensures.slept r.stands;
    }

pub returns : goal.returns
returns c = λ E V has h awaited.
    let day = c.args.phase.now.day.now in
    let z = counts_in day in
    let S = setup day in
    let end = day.town.now.settings.end_second in
    let N = c.args.network.now in
    let t = c.args.phase.now.second in
    let M : NetworkState = record N { node_wakes = c.take.new.self } in
    let stands = stands_with z S E end t V N M c.take.new.self refl c.in_ok-numbers.ensures.slept h in
    let own = woken_mine E t S.nodes N.node_wakes _ h.nodes h.only (c.deref.ensures.value ∙ c.in_ok-numbers.ensures.woken) in
    all_turned z S E end t V c.deref.result.now N M c.turn_nodes.new.network c.args.told.now.events.items c.turn_nodes.new.told.events.items
    c.args.told.now.said.items c.turn_nodes.new.told.said.items c.args.out.now.items c.turn_nodes.new.out.items c.requires.in_day h awaited
    (c.deref.ensures.value ∙ c.in_ok-numbers.ensures.woken) c.in_ok-numbers.ensures.slept (λ m. refl) refl (c.in_ok-turn_nodes.ensures E V has own stands)
