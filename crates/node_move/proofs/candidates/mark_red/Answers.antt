use Rattle.std.proofs.Common.{◌∙◌, false, sym}
use Rattle.node_move.proofs.Drawing.{no_greens, marks_next, skips_next}
use Rattle.node_move.proofs.candidates.mark_red.Goals.{then-not-greens-place, else-not-greens-place}
use Rattle.node_move.proofs.candidates.mark_red.Goals as goal

pub loop-place-init : goal.loop-place-init
loop-place-init c = sym (no_greens c.args.second c.args.in_links.now)

pub loop-place-preserved : goal.loop-place-preserved
loop-place-preserved c =
    elim c.if-not-greens-place.branch [
      | then-not-greens-place w ↦
          w.in_links-is
          ∙ marks_next c.args.second c.args.in_links.now c.loop-place.in_links c.args.greens.now c.loop-place.place false w.index-in_links-place.result
          w.mark_first.new.self c.loop-place-test.true c.requires w.if-not-greens-place.true c.loop-place.invariant w.mark_first.ensures
      | else-not-greens-place w ↦
          w.in_links-is
          ∙ skips_next c.args.second c.args.in_links.now c.loop-place.in_links c.args.greens.now c.loop-place.place false c.loop-place-test.true
          c.requires w.if-not-greens-place.false c.loop-place.invariant
    ]
