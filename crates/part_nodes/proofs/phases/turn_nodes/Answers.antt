use Rattle.std.proofs.{Common.◌<◌, Common.ℕ, Common.List, Common.◌∙◌, Common.sym, Common.refl, Common.subst, Common.get_or, Common.take, lemmas.List.take_all}
use Rattle.law_in_range.specs.Setups.{counts_in}
use Rattle.town.specs.Views.{setup}
use Rattle.traffic.specs.Day.{turns, turns_of, after}
use Rattle.events.specs.declared.event.Phase.TheVariants as phase
use Rattle.node_seconds.proofs.Lanes.{in_at, among_front}
use Rattle.part_links.proofs.Standing.{taken_one}
use Rattle.part_nodes.{proofs.Skipped.turned_none, proofs.Skipped.turned_last, proofs.Skipped.mine_at, specs.Phase.AreTurned}
use Rattle.part_nodes.proofs.phases.turn_nodes.Goals as goal

pub loop-number-init : goal.loop-number-init
loop-number-init c = λ E V has own h.
    let day = c.args.phase.now.day.now in
    turned_none (counts_in day) (setup day) E day.town.now.settings.end_second c.args.phase.now.second V c.args.network.now
    c.args.told.now.events.items c.args.told.now.said.items c.args.out.now.items h

pub of_node-into-requires : goal.of_node-into-requires
of_node-into-requires c =
    in_at (setup c.args.phase.now.day.now).nodes c.args.numbers.now c.loop-number.number-index _ c.requires.there c.loop-number-test.true
    c.requires.nodes

pub turn_node-requires-clause-there : goal.turn_node-requires-clause-there
turn_node-requires-clause-there c =
    in_at (setup c.args.phase.now.day.now).nodes c.args.numbers.now c.loop-number.number-index _ c.requires.there c.loop-number-test.true refl

pub turn_node-requires-clause-into : goal.turn_node-requires-clause-into
turn_node-requires-clause-into c =
    let nodes = (setup c.args.phase.now.day.now).nodes in
    let n = get_or c.args.numbers.now c.loop-number.number-index 0 in
    let lt : n < nodes = in_at nodes c.args.numbers.now c.loop-number.number-index nodes c.requires.there c.loop-number-test.true refl in
    c.of_node-into.ensures ∙ c.requires.into n lt

pub turn_node-requires-clause-stands : goal.turn_node-requires-clause-stands
turn_node-requires-clause-stands c =
    let r = c.requires.stands in
    let S = setup c.args.phase.now.day.now in
    let t = c.args.phase.now.second in
    record {
      extent = r.extent;
      world = after S t (turns S t (turns_of S t phase.C) (take c.loop-number.number-index c.args.numbers.now) r.world) r.world;
      has = r.has;
      own = (mine_at r.extent c.args.numbers.now c.loop-number.number-index r.own c.loop-number-test.true, tt);
      stands = (c.loop-number.invariant r.extent r.world r.has r.own r.stands).stands;
    }

pub loop-number-preserved : goal.loop-number-preserved
loop-number-preserved c = λ E V has own h.
    let day = c.args.phase.now.day.now in
    let z = counts_in day in
    let S = setup day in
    let end = day.town.now.settings.end_second in
    let t = c.args.phase.now.second in
    let ns = c.args.numbers.now in
    let i = c.loop-number.number-index in
    let lt = c.loop-number-test.true in
    let W = after S t (turns S t (turns_of S t phase.C) (take i ns) V) V in
    let so_far = c.loop-number.invariant E V has own h in
    let first = c.args.told.now.events.items in
    let spoken = c.args.told.now.said.items in
    let first_out = c.args.out.now.items in
    subst (λ (ms : List ℕ). AreTurned z S E end t V ms c.args.network.now c.turn_node.new.network first c.turn_node.new.told.events.items spoken
    c.turn_node.new.told.said.items first_out c.turn_node.new.out.items) (sym (taken_one ns i lt))
    (turned_last z S E end t (get_or ns i 0) V (take i ns) c.args.network.now c.loop-number.network c.turn_node.new.network first
    c.loop-number.told.events.items c.turn_node.new.told.events.items spoken c.loop-number.told.said.items c.turn_node.new.told.said.items
    first_out c.loop-number.out.items c.turn_node.new.out.items
    (among_front ns i c.requires.once lt) so_far (c.in_ok-turn_node.ensures E W has (mine_at E ns i own lt) so_far.stands))

pub returns : goal.returns
returns c = λ E V has own h.
    let day = c.args.phase.now.day.now in
    subst (λ (ms : List ℕ). AreTurned (counts_in day) (setup day) E day.town.now.settings.end_second c.args.phase.now.second V ms
    c.args.network.now c.loop-number.network c.args.told.now.events.items c.loop-number.told.events.items c.args.told.now.said.items
    c.loop-number.told.said.items c.args.out.now.items c.loop-number.out.items) (take_all c.loop-number.number-index c.args.numbers.now c.loop-number-test.false)
    (c.loop-number.invariant E V has own h)
