use Rattle.std.proofs.Common.{◌∙◌, ap, sym, refl, subst, length, get_or, take}
use Rattle.std.proofs.lemmas.List.{length-set, take_all}
use Rattle.node_seconds.{proofs.Lanes.in_at, proofs.Lanes.among_front, specs.Networks.is_among}
use Rattle.part_links.specs.Phase.{AreTurned}
use Rattle.part_links.proofs.Standing.{none_turned, turned_next, left_next, able_left, taken_one}
use Rattle.part_links.proofs.phases.turn_links.Goals as goal

pub loop-slot-init : goal.loop-slot-init
loop-slot-init c = record {
  turned = λ number size S V own d stand lies there.
      none_turned number size S c.args.phase.now.end c.args.phase.now.second V c.args.links.now c.args.lines.now c.args.wakes.now
      c.args.told.now.events.items c.args.told.now.said.items stand lies;
  count = refl;
  wakes = c.requires.count;
  stops = refl;
  left = λ m e. refl;
  short = c.requires.short;
}

pub turn_link-requires-clause-there : goal.turn_link-requires-clause-there
turn_link-requires-clause-there c = in_at (length c.args.links.now) c.args.slots.now c.loop-slot.slot-index _ c.requires.there c.loop-slot-test.true
    c.loop-slot.invariant.count

pub turn_link-requires-clause-able : goal.turn_link-requires-clause-able
turn_link-requires-clause-able c =
    able_left c.args.phase.now.second c.args.links.now c.loop-slot.links c.args.slots.now c.loop-slot.slot-index (length c.args.lines.now) _
    c.requires.there c.requires.once c.loop-slot-test.true c.loop-slot.invariant.stops c.requires.able c.loop-slot.invariant.left

pub loop-slot-preserved : goal.loop-slot-preserved
loop-slot-preserved c =
    let ns = c.args.slots.now in
    let i = c.loop-slot.slot-index in
    let n = get_or ns i 0 in
    let lt = c.loop-slot-test.true in
    let fresh = among_front ns i c.requires.once lt in
    let there = in_at (length c.args.links.now) ns i (length c.args.links.now) c.requires.there lt refl in
    let more = taken_one ns i lt in
    record {
      turned = λ number size S V own d stand lies stops.
          subst (λ ms. AreTurned number S c.args.phase.now.end c.args.phase.now.second V ms c.args.links.now c.turn_link.new.links c.turn_link.new.lines
          c.args.wakes.now c.turn_link.new.wakes c.args.told.now.events.items c.turn_link.new.told.events.items
          c.args.told.now.said.items c.turn_link.new.told.said.items) (sym more)
          (turned_next number size S c.args.phase.now.end c.args.phase.now.second n V c.args.phase.now.dwell (take i ns) c.args.links.now
          c.loop-slot.links c.turn_link.new.links c.loop-slot.lines c.turn_link.new.lines c.args.wakes.now c.loop-slot.wakes c.turn_link.new.wakes
          c.args.told.now.events.items c.loop-slot.told.events.items c.turn_link.new.told.events.items
          c.args.told.now.said.items c.loop-slot.told.said.items c.turn_link.new.told.said.items own d stand stops there c.requires.count fresh
          (c.loop-slot.invariant.turned number size S V own d stand lies stops) c.in_ok-turn_link.ensures.turn c.in_ok-turn_link.ensures.others
          c.in_ok-turn_link.ensures.woken);
      count = ap length c.in_ok-turn_link.ensures.others ∙ length-set _ _ _ ∙ c.loop-slot.invariant.count;
      wakes =
          ap length c.in_ok-turn_link.ensures.woken ∙ length-set _ _ _ ∙ c.loop-slot.invariant.wakes
          ∙ sym (ap length c.in_ok-turn_link.ensures.others ∙ length-set _ _ _);
      stops = c.turn_link.auto.lines ∙ c.loop-slot.invariant.stops;
      left = left_next c.args.links.now c.loop-slot.links c.turn_link.new.links ns i n lt refl c.in_ok-turn_link.ensures.others
          c.loop-slot.invariant.left;
      short = c.in_ok-turn_link.ensures.short;
    }

pub returns-clause-turned : goal.returns-clause-turned
returns-clause-turned c = λ number size S V own d stand lies stops.
    subst (λ ms. AreTurned number S c.args.phase.now.end c.args.phase.now.second V ms c.args.links.now c.loop-slot.links c.loop-slot.lines
    c.args.wakes.now c.loop-slot.wakes c.args.told.now.events.items c.loop-slot.told.events.items
    c.args.told.now.said.items c.loop-slot.told.said.items) (take_all c.loop-slot.slot-index c.args.slots.now c.loop-slot-test.false)
    (c.loop-slot.invariant.turned number size S V own d stand lies stops)

pub returns-clause-others : goal.returns-clause-others
returns-clause-others c = λ l out_of.
    c.loop-slot.invariant.left l (ap (is_among l) (take_all c.loop-slot.slot-index c.args.slots.now c.loop-slot-test.false) ∙ out_of)
