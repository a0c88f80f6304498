use Rattle.std.proofs.Common.{◌∙◌, ◌+◌}
use Rattle.events.specs.declared.event.Phase.TheVariants as phase
use Rattle.town.specs.Views.{setup}
use Rattle.traffic.specs.Day.{count_of}
use Rattle.part_persons.proofs.Early.{early_by, woken_in, slept_length, taken_followed, as_many}
use Rattle.part_persons.proofs.persons.Persons.land_and_leave.Goals as goal

pub do_turns-requires-clause-wakes : goal.do_turns-requires-clause-wakes
do_turns-requires-clause-wakes c = slept_length c.args.second c.args.self.now.wakes _ c.in_ok-due.ensures.slept ∙ c.requires.wakes

pub do_turns-requires-clause-there : goal.do_turns-requires-clause-there
do_turns-requires-clause-there c =
    woken_in c.args.second (count_of (setup c.args.day.now) phase.A) c.args.self.now.wakes _ (c.deref.ensures.value ∙ c.in_ok-due.ensures.woken)
    (c.requires.wakes ∙ as_many c.args.day.now c.args.self.now.world c.requires.fit)

pub do_turns-requires-2-clause-there : goal.do_turns-requires-2-clause-there
do_turns-requires-2-clause-there c =
    woken_in c.args.second (count_of (setup c.args.day.now) phase.B1) c.args.self.now.wakes _ (c.deref-2.ensures.value ∙ c.in_ok-due.ensures.woken)
    (c.requires.wakes ∙ as_many c.args.day.now c.args.self.now.world c.requires.fit)

pub returns-clause-world : goal.returns-clause-world
returns-clause-world c =
    (early_by (setup c.args.day.now) c.args.day.now.town.now.settings.end_second c.args.second c.args.self.now.world c.do_turns.new.self.world
    c.do_turns-2.new.self.world c.args.self.now.wakes c.deref.result.now c.deref-2.result.now c.args.events.now.items c.do_turns.new.events.items
    c.do_turns-2.new.events.items c.requires.wakes (as_many c.args.day.now c.args.self.now.world c.requires.fit) c.requires.in_day
    (c.deref.ensures.value ∙ c.in_ok-due.ensures.woken) (c.deref-2.ensures.value ∙ c.in_ok-due.ensures.woken) c.requires.followed
    c.in_ok-do_turns.ensures.world c.in_ok-do_turns.ensures.events c.in_ok-do_turns-2.ensures.world c.in_ok-do_turns-2.ensures.events).world

pub returns-clause-events : goal.returns-clause-events
returns-clause-events c =
    (early_by (setup c.args.day.now) c.args.day.now.town.now.settings.end_second c.args.second c.args.self.now.world c.do_turns.new.self.world
    c.do_turns-2.new.self.world c.args.self.now.wakes c.deref.result.now c.deref-2.result.now c.args.events.now.items c.do_turns.new.events.items
    c.do_turns-2.new.events.items c.requires.wakes (as_many c.args.day.now c.args.self.now.world c.requires.fit) c.requires.in_day
    (c.deref.ensures.value ∙ c.in_ok-due.ensures.woken) (c.deref-2.ensures.value ∙ c.in_ok-due.ensures.woken) c.requires.followed
    c.in_ok-do_turns.ensures.world c.in_ok-do_turns.ensures.events c.in_ok-do_turns-2.ensures.world c.in_ok-do_turns-2.ensures.events).events

pub returns-clause-others : goal.returns-clause-others
returns-clause-others c =
    (early_by (setup c.args.day.now) c.args.day.now.town.now.settings.end_second c.args.second c.args.self.now.world c.do_turns.new.self.world
    c.do_turns-2.new.self.world c.args.self.now.wakes c.deref.result.now c.deref-2.result.now c.args.events.now.items c.do_turns.new.events.items
    c.do_turns-2.new.events.items c.requires.wakes (as_many c.args.day.now c.args.self.now.world c.requires.fit) c.requires.in_day
    (c.deref.ensures.value ∙ c.in_ok-due.ensures.woken) (c.deref-2.ensures.value ∙ c.in_ok-due.ensures.woken) c.requires.followed
    c.in_ok-do_turns.ensures.world c.in_ok-do_turns.ensures.events c.in_ok-do_turns-2.ensures.world c.in_ok-do_turns-2.ensures.events).others

pub returns-clause-followed : goal.returns-clause-followed
returns-clause-followed c =
    c.in_ok-do_turns-2.ensures.followed (c.args.second + 1)
    (c.in_ok-do_turns.ensures.followed (c.args.second + 1)
    (taken_followed (setup c.args.day.now) c.args.day.now.town.now.settings.end_second c.args.second c.args.self.now.world.persons
    c.args.self.now.wakes _ c.requires.wakes c.in_ok-due.ensures.slept c.requires.followed))
