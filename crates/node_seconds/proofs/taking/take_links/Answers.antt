use Rattle.std.proofs.{Common.◌∙◌, Common.ap, Common.refl, Common.length, lemmas.List.length-set}
use Rattle.node_seconds.proofs.Lanes.{taken_none, take_one, in_at, taken_all, others_all}
use Rattle.node_seconds.proofs.taking.take_links.Goals as goal

pub loop-slot-init : goal.loop-slot-init
loop-slot-init c = record { taken = taken_none c.args.links.now c.args.slots.now _ c.new-taken.ensures.items; count = refl }

pub take_link-link-requires : goal.take_link-link-requires
take_link-link-requires c = in_at (length c.args.links.now) c.args.slots.now c.loop-slot.slot-index _ c.requires.there c.loop-slot-test.true
    c.loop-slot.invariant.count

pub loop-slot-preserved : goal.loop-slot-preserved
loop-slot-preserved c = record {
  taken = take_one c.args.links.now c.loop-slot.links c.take_link-link.new.links c.args.slots.now c.loop-slot.slot-index _ _ _
      c.loop-slot.taken.items _ c.requires.once c.loop-slot-test.true refl c.take_link-link.ensures.taken c.take_link-link.ensures.rest
      c.in_ok-push.ensures.items c.loop-slot.invariant.taken;
  count = ap length c.take_link-link.ensures.rest ∙ length-set _ _ _ ∙ c.loop-slot.invariant.count;
}

pub returns-clause-taken : goal.returns-clause-taken
returns-clause-taken c = taken_all c.args.links.now c.loop-slot.links c.loop-slot.slot-index c.args.slots.now c.loop-slot.taken.items
    c.loop-slot-test.false c.loop-slot.invariant.taken

pub returns-clause-others : goal.returns-clause-others
returns-clause-others c = others_all c.args.links.now c.loop-slot.links c.loop-slot.slot-index c.args.slots.now c.loop-slot.taken.items
    c.loop-slot-test.false c.loop-slot.invariant.taken
