use Rattle.std.proofs.{Common.◌∙◌, Common.ap, Common.length, lemmas.List.length-map}
use Rattle.calendar.specs.Waking.{slept}
use Rattle.node_seconds.specs.Networks.{is_among}
use Rattle.part_links.proofs.Whole.{phase_is, woken_there, woken_once}
use Rattle.part_links.proofs.phases.move_links.Goals as goal

pub turn_links-requires-clause-there : goal.turn_links-requires-clause-there
turn_links-requires-clause-there c =
    woken_there c.args.phase.now.second (length c.args.links.now) c.args.wakes.now _ (c.deref.ensures.value ∙ c.in_ok-slots.ensures.woken) c.requires.count

pub turn_links-requires-clause-once : goal.turn_links-requires-clause-once
turn_links-requires-clause-once c = woken_once c.args.phase.now.second c.args.wakes.now _ (c.deref.ensures.value ∙ c.in_ok-slots.ensures.woken)

pub turn_links-requires-clause-count : goal.turn_links-requires-clause-count
turn_links-requires-clause-count c = ap length c.in_ok-slots.ensures.slept ∙ length-map c.args.wakes.now (slept c.args.phase.now.second) ∙ c.requires.count

pub returns-clause-phase : goal.returns-clause-phase
returns-clause-phase c = λ number size S V own d stand lies stops asleep.
    phase_is number size S c.args.phase.now.end c.args.phase.now.second V c.args.phase.now.dwell c.deref.result.now c.args.links.now c.turn_links.new.links
    c.turn_links.new.lines c.args.wakes.now c.take.new.self c.turn_links.new.wakes c.args.told.now.events.items c.turn_links.new.told.events.items
    c.args.told.now.said.items c.turn_links.new.told.said.items own d stand asleep c.requires.in_day (c.deref.ensures.value ∙ c.in_ok-slots.ensures.woken)
    c.in_ok-slots.ensures.slept (c.in_ok-turn_links.ensures.turned number size S V own d stand lies stops)

pub returns-clause-others : goal.returns-clause-others
returns-clause-others c = λ l out_of. c.in_ok-turn_links.ensures.others l (ap (is_among l) c.deref.ensures.value ∙ out_of)
