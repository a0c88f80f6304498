use Rattle.std.proofs.Common.{sym, ◌∙◌}
use Rattle.plain_turns.specs.OutLinks.{AreNear}
use Rattle.town.specs.Views.{setup}
use Rattle.plain_day.specs.Views.{out_link_row, is_out}
use Rattle.person_moves.proofs.Counting.{seen_none, seen_more, seen_past}
use Rattle.plain_day.proofs.Fitting.{near_push}
use Rattle.plain_day.proofs.views.out_links.Goals.{then-is_out+in_ok-row+in_ok-push, else-is_out}
use Rattle.plain_day.proofs.views.out_links.Goals as goal

pub loop-link-init : goal.loop-link-init
loop-link-init c = rw c.new-out_links.ensures.items (seen_none _ _ AreNear c.len-link-end.result tt)

pub loop-link-preserved : goal.loop-link-preserved
loop-link-preserved c =
    let p = is_out (setup c.args.day.now) c.args.node in
    let f = out_link_row (setup c.args.day.now) c.args.second c.args.world.now in
    let loop = c.loop-link in
    elim c.if-is_out.branch [
      | then-is_out+in_ok-row+in_ok-push w ↦ rw (w.out_links-is, w.in_ok-push.ensures.items) (seen_more p f AreNear loop.link c.len-link-end.result loop.out_links.items w.in_ok-row.row loop.invariant
          c.loop-link-test.true (sym c.is_out.ensures ∙ w.if-is_out.true) w.in_ok-row.ensures.value (near_push loop.out_links.items w.in_ok-row.row loop.invariant.right w.in_ok-row.ensures.near))
      | else-is_out w ↦ rw w.out_links-is (seen_past p f AreNear loop.link c.len-link-end.result loop.out_links.items loop.invariant c.loop-link-test.true (sym c.is_out.ensures ∙ w.if-is_out.false))
    ]
