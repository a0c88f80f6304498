use Rattle.std.proofs.Common.{true, false}
use Rattle.link_seconds.proofs.Turning.{turns_more, goes_by, kept_on}
use Rattle.link_seconds.proofs.seconds.all_turns.Goals as goal

pub returns-then-not-goes-clause-leads : goal.returns-then-not-goes-clause-leads
returns-then-not-goes-clause-leads c = λ lies ws h g.
    let p = c.turns.invariant.leads lies ws h g in
    turns_more lies false c.args.dwell.now c.args.second ws c.args.link.now c.turns.link c.one_turn.new.link c.args.said.now.items c.turns.said.items
    c.one_turn.new.said.items c.args.lines.now c.turns.lines c.one_turn.new.lines c.turns.invariant.same p
    (goes_by lies c.in_ok-goes.goes false c.args.dwell.now c.args.second p.left c.turns.link c.one_turn.new.link c.turns.said.items
    c.one_turn.new.said.items c.turns.lines c.one_turn.new.lines c.if-not-goes.true (c.in_ok-goes.ensures.leads lies p.left p.waits (c.turns.invariant.there lies g)))

pub turns-preserved : goal.turns-preserved
turns-preserved c = record {
  leads = λ lies ws h g.
      let p = c.turns.invariant.leads lies ws h g in
      turns_more lies true c.args.dwell.now c.args.second ws c.args.link.now c.turns.link c.one_turn.new.link c.args.said.now.items c.turns.said.items
      c.one_turn.new.said.items c.args.lines.now c.turns.lines c.one_turn.new.lines c.turns.invariant.same p
      (goes_by lies c.in_ok-goes.goes true c.args.dwell.now c.args.second p.left c.turns.link c.one_turn.new.link c.turns.said.items
      c.one_turn.new.said.items c.turns.lines c.one_turn.new.lines c.if-not-goes.false (c.in_ok-goes.ensures.leads lies p.left p.waits (c.turns.invariant.there lies g)));
  there = λ lies g. c.in_ok-goes.ensures.there lies (c.turns.invariant.there lies g);
  same = kept_on c.args.link.now c.turns.link c.one_turn.new.link c.turns.invariant.same c.in_ok-goes.ensures.same;
  ready = c.in_ok-goes.ensures.ready;
  short = c.in_ok-goes.ensures.short;
}
