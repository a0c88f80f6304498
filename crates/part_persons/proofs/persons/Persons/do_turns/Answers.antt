use Rattle.town.specs.Views.{setup}
use Rattle.traffic.specs.Day.{count_of}
use Rattle.part_persons.specs.Phases.{phase_of}
use Rattle.part_persons.proofs.InOrder.{going_start, going_next, going_world, going_events, below_at}
use Rattle.part_persons.proofs.persons.Persons.do_turns.Goals as goal

pub loop-number-init : goal.loop-number-init
loop-number-init c = record {
  going = going_start (setup c.args.day.now) c.args.second (phase_of c.args.early) c.args.numbers.now c.args.self.now.world c.args.events.now.items;
  fit = c.requires.fit;
  wakes = c.requires.wakes;
  followed = λ t h. h;
}

pub do_early-requires-clause-there : goal.do_early-requires-clause-there
do_early-requires-clause-there c =
    below_at (count_of (setup c.args.day.now) (phase_of c.args.early)) c.args.numbers.now c.loop-number.number-index c.requires.there c.loop-number-test.true

pub loop-number-preserved : goal.loop-number-preserved
loop-number-preserved c = record {
  going = going_next (setup c.args.day.now) c.args.second (phase_of c.args.early) c.loop-number.number-index c.args.numbers.now c.args.self.now.world
      c.loop-number.self.world c.do_early.new.self.world c.args.events.now.items c.loop-number.events.items c.do_early.new.events.items
      c.loop-number-test.true c.in_ok-do_early.ensures.world c.in_ok-do_early.ensures.events c.loop-number.invariant.going;
  fit = c.in_ok-do_early.ensures.fit;
  wakes = c.in_ok-do_early.ensures.wakes;
  followed = λ t h. c.in_ok-do_early.ensures.followed t (c.loop-number.invariant.followed t h);
}

pub returns-clause-world : goal.returns-clause-world
returns-clause-world c = going_world (setup c.args.day.now) c.args.second (phase_of c.args.early) c.loop-number.number-index c.args.numbers.now
    c.args.self.now.world c.loop-number.self.world c.args.events.now.items c.loop-number.events.items c.loop-number-test.false c.loop-number.invariant.going

pub returns-clause-events : goal.returns-clause-events
returns-clause-events c = going_events (setup c.args.day.now) c.args.second (phase_of c.args.early) c.loop-number.number-index c.args.numbers.now
    c.args.self.now.world c.loop-number.self.world c.args.events.now.items c.loop-number.events.items c.loop-number-test.false c.loop-number.invariant.going
