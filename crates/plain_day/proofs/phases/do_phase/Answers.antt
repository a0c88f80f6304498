use Rattle.traffic.proofs.Common.{ℕ, ◌<◌, subst, ◌≤◌, count_of}
use Rattle.town.specs.Views.{setup}
use Rattle.law_in_range.proofs.Phasing.{going_more, gone_world, gone_events}
use Rattle.plain_day.proofs.phases.do_phase.Goals as goal

pub loop-number-preserved : goal.loop-number-preserved
loop-number-preserved c =
    let S = setup c.args.day.now in
    let there = subst (λ (n : ℕ). c.loop-number.number < n) c.count_of-count.ensures c.loop-number-test.true in
    record {
      going = going_more S c.args.second c.args.phase (count_of S c.args.phase) c.loop-number.number c.args.world.now c.loop-number.world _ c.args.out.now.items c.loop-number.out.items _
          there c.in_ok-next_turn.ensures.world c.in_ok-next_turn.ensures.events c.loop-number.invariant.going;
      fit = c.in_ok-next_turn.ensures.fit;
    }

pub returns-clause-world : goal.returns-clause-world
returns-clause-world c =
    let S = setup c.args.day.now in
    let gone = subst (λ (n : ℕ). n ≤ c.loop-number.number) c.count_of-count.ensures c.loop-number-test.false in
    gone_world S c.args.second c.args.phase c.loop-number.number c.args.world.now c.loop-number.world c.args.out.now.items c.loop-number.out.items gone c.loop-number.invariant.going

pub returns-clause-events : goal.returns-clause-events
returns-clause-events c =
    let S = setup c.args.day.now in
    let gone = subst (λ (n : ℕ). n ≤ c.loop-number.number) c.count_of-count.ensures c.loop-number-test.false in
    gone_events S c.args.second c.args.phase c.loop-number.number c.args.world.now c.loop-number.world c.args.out.now.items c.loop-number.out.items gone c.loop-number.invariant.going
