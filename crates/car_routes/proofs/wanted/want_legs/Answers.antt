use Rattle.std.proofs.Common.{◌∙◌}
use Rattle.car_routes.proofs.Wanting.{on_way_start, on_way_step, on_way_end, wanted_step, wanted_past}
use Rattle.car_routes.proofs.wanted.want_legs.Goals as goal

pub loop-place-init : goal.loop-place-init
loop-place-init c = on_way_start _ _ _

pub want_leg-requires-clause-nodes : goal.want_leg-requires-clause-nodes
want_leg-requires-clause-nodes c = c.loop-place.invariant.count ∙ c.requires.nodes

pub loop-place-preserved : goal.loop-place-preserved
loop-place-preserved c =
    on_way_step _ _ _ _ _ _ _ _ c.loop-place.invariant
    (wanted_step c.args.adjacency.now.ends c.args.acts.now c.args.legs.now c.loop-place.place _ _ _ c.requires.pairs c.loop-place-test.true
    c.index-legs-place.is) c.in_ok-want_leg.ensures

pub returns : goal.returns
returns c =
    on_way_end _ _ _ _ _ c.loop-place.invariant
    (wanted_past c.args.adjacency.now.ends c.args.acts.now c.args.legs.now c.loop-place.place c.loop-place-test.false)
