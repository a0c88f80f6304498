use Rattle.std.proofs.Common.{rules}
use Rattle.town.specs.Views.{setup}
use Rattle.law_in_range.proofs.{Dawn.world_none, Dawn.events_none, Phasing.world_more, Phasing.events_more}
use Rattle.plain_day.proofs.days.all_seconds.Goals as goal

pub loop-t-init : goal.loop-t-init
loop-t-init c =
    let S = setup c.args.day.now in
    record { world = world_none S c.args.world.now; events = events_none S c.args.world.now c.new-events.result.items (search rules); fit = c.requires.fit }

pub loop-t-preserved : goal.loop-t-preserved
loop-t-preserved c =
    let S = setup c.args.day.now in
    record {
      world = world_more S c.args.world.now c.loop-t.t c.loop-t.world _ c.loop-t.invariant.world c.in_ok-fit_second.ensures.world;
      events = events_more S c.args.world.now c.loop-t.t c.loop-t.world c.loop-t.events.items _ c.loop-t.invariant.world c.loop-t.invariant.events c.in_ok-fit_second.ensures.events;
      fit = c.in_ok-fit_second.ensures.fit;
    }
