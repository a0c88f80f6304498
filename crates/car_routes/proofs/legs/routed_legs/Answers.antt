use Rattle.std.{proofs.Common.◌∙◌, proofs.Common.ap, proofs.Common.arith, specs.List.list_all}
use Rattle.rows.specs.Plan.{is_leg}
use Rattle.router.proofs.Walking.{leg_more, none_left}
use Rattle.car_routes.proofs.Routing.{go_step, go_end, sound_push}
use Rattle.car_routes.{proofs.Wanting.wanted_step, proofs.Wanting.wanted_past, specs.Plans.routed_leg}
use Rattle.car_routes.proofs.legs.routed_legs.Goals as goal

pub loop-place-preserved : goal.loop-place-preserved
loop-place-preserved c = record {
  legs = λ arrive rest alike next.
      go_step c.args.adjacency.now arrive c.loop-place.found c.routed_leg.new.found _ _ _ rest c.loop-place.new.items _ _ _ _ _ _
      (wanted_step c.args.adjacency.now.ends c.args.acts.now c.args.legs.now c.loop-place.place _ _ _ c.requires.pairs c.loop-place-test.true
      c.index-legs-place.is)
      (leg_more (routed_leg c.args.adjacency.now arrive) c.args.acts.now c.args.legs.now c.loop-place.place _ _ _ c.requires.pairs
      c.loop-place-test.true c.index-legs-place.is)
      (c.loop-place.invariant.legs arrive rest alike next)
      (λ more wanted. c.in_ok-leg.ensures.leg arrive more alike wanted)
      c.in_ok-push.ensures.items;
  sound = λ all.
      ap (list_all is_leg) c.in_ok-push.ensures.items
      ∙ sound_push c.args.legs.now c.loop-place.new.items c.loop-place.place c.index-legs-place.result c.in_ok-leg.leg c.loop-place-test.true
      c.index-legs-place.is (c.loop-place.invariant.sound all) c.in_ok-leg.ensures.sound all;
  count = omega (arith, c.in_ok-push.ensures.len, c.loop-place.invariant.count);
  nodes = c.in_ok-leg.ensures.count ∙ c.loop-place.invariant.nodes;
}

pub returns-clause-legs : goal.returns-clause-legs
returns-clause-legs c = λ arrive rest alike next.
    go_end c.args.adjacency.now arrive c.loop-place.found _ rest c.loop-place.new.items _ _
    (wanted_past c.args.adjacency.now.ends c.args.acts.now c.args.legs.now c.loop-place.place c.loop-place-test.false)
    (none_left (routed_leg c.args.adjacency.now arrive) c.args.acts.now c.args.legs.now c.loop-place.place c.loop-place-test.false)
    (c.loop-place.invariant.legs arrive rest alike next)
