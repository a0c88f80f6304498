use Rattle.law_in_range.proofs.Dawn.{day_is, day_in_book}
use Rattle.plain_day.proofs.days.plain_day.Goals as goal

pub returns-clause-events : goal.returns-clause-events
returns-clause-events c =
    day_is c.args.day.now c.in_ok-world.world c.all_seconds.new.world c.in_ok-events.events.items c.push_ends.new.out.items
    c.in_ok-world.ensures.world c.in_ok-events.ensures.world c.in_ok-events.ensures.events c.in_ok-push_ends.ensures

pub returns-clause-named : goal.returns-clause-named
returns-clause-named c =
    day_in_book c.args.day.now c.push_ends.new.out.items c.requires
    (day_is c.args.day.now c.in_ok-world.world c.all_seconds.new.world c.in_ok-events.events.items c.push_ends.new.out.items
    c.in_ok-world.ensures.world c.in_ok-events.ensures.world c.in_ok-events.ensures.events c.in_ok-push_ends.ensures)
