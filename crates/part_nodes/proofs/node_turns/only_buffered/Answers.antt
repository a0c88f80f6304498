use Rattle.std.proofs.Common.{◌∙◌, ap, sym, refl, length}
use Rattle.std.{proofs.lemmas.List.take_all, specs.Prelude.filter}
use Rattle.node_seconds.proofs.Lanes.{in_at}
use Rattle.part_nodes.{specs.Turns.is_buffered, proofs.Only.as_list, proofs.Only.found_next, proofs.Only.skipped_next, proofs.Only.two_found}
use Rattle.part_nodes.proofs.{Only.only_found, node_turns.only_buffered.Goals.then-is_buffered+in-None, node_turns.only_buffered.Goals.else-is_buffered}
use Rattle.part_nodes.proofs.node_turns.only_buffered.Goals as goal

pub is_buffered-requires : goal.is_buffered-requires
is_buffered-requires c =
    in_at (length c.args.links.now) c.args.slots.now c.loop-slot.slot-index _ c.requires c.loop-slot-test.true refl

pub returns-in-Some : goal.returns-in-Some
returns-in-Some c =
    two_found (is_buffered c.args.links.now) c.args.slots.now c.loop-slot.slot-index c.in-Some.field-0 c.loop-slot-test.true
    (sym c.is_buffered.ensures ∙ c.if-is_buffered.true) (c.loop-slot.invariant ∙ ap as_list c.in-Some.is)

pub loop-slot-preserved : goal.loop-slot-preserved
loop-slot-preserved c =
    let p = is_buffered c.args.links.now in
    let ns = c.args.slots.now in
    let i = c.loop-slot.slot-index in
    let lt = c.loop-slot-test.true in
    elim c.if-is_buffered.branch [
      | then-is_buffered+in-None w ↦
          found_next p ns i c.loop-slot.only c.if-is_buffered.only lt (sym c.is_buffered.ensures ∙ w.if-is_buffered.true) w.in-None.is w.only-is
          c.loop-slot.invariant
      | else-is_buffered w ↦
          skipped_next p ns i c.loop-slot.only c.if-is_buffered.only lt (sym c.is_buffered.ensures ∙ w.if-is_buffered.false) w.only-is
          c.loop-slot.invariant
    ]

pub returns : goal.returns
returns c =
    only_found c.loop-slot.only (filter (is_buffered c.args.links.now) c.args.slots.now)
    (ap (filter (is_buffered c.args.links.now)) (sym (take_all c.loop-slot.slot-index c.args.slots.now c.loop-slot-test.false))
    ∙ c.loop-slot.invariant)
