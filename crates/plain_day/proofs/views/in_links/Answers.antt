use Rattle.traffic.proofs.Common.{◌∙◌, ap, sym, map, filter, below, in_link}
use Rattle.plain_turns.specs.OutLinks.{AreInLinks}
use Rattle.town.specs.Views.{setup}
use Rattle.plain_day.proofs.{Fitting.in_links_push, Seen.into_is, views.in_links.Goals.then-is_in+in_ok-seen+in_ok-push, views.in_links.Goals.else-is_in}
use Rattle.plain_day.specs.Views.{is_in}
use Rattle.person_moves.proofs.Counting.{seen_none, seen_more, seen_past, went_all}
use Rattle.plain_day.proofs.views.in_links.Goals as goal

pub loop-link-init : goal.loop-link-init
loop-link-init c = rw c.new-in_links.ensures.items (seen_none _ _ AreInLinks c.len-link-end.result tt)

pub loop-link-preserved : goal.loop-link-preserved
loop-link-preserved c =
    let p = is_in (setup c.args.day.now) c.args.node in
    let f = in_link (setup c.args.day.now) c.args.second c.args.world.now in
    let loop = c.loop-link in
    elim c.if-is_in.branch [
      | then-is_in+in_ok-seen+in_ok-push w ↦ rw (w.in_links-is, w.in_ok-push.ensures.items) (seen_more p f AreInLinks loop.link c.len-link-end.result loop.in_links.items w.in_ok-seen.seen loop.invariant
          c.loop-link-test.true (sym c.is_in.ensures ∙ w.if-is_in.true) w.in_ok-seen.ensures.value (in_links_push loop.in_links.items w.in_ok-seen.seen loop.invariant.right w.in_ok-seen.ensures.fit_after))
      | else-is_in w ↦ rw w.in_links-is (seen_past p f AreInLinks loop.link c.len-link-end.result loop.in_links.items loop.invariant c.loop-link-test.true (sym c.is_in.ensures ∙ w.if-is_in.false))
    ]

pub returns-clause-value : goal.returns-clause-value
returns-clause-value c =
    let S = setup c.args.day.now in
    let is = is_in S c.args.node in
    let f = in_link S c.args.second c.args.world.now in
    went_all is f c.loop-link.link c.len-link-end.result c.loop-link.in_links.items _ c.loop-link-test.false c.loop-link.invariant.seen
    ∙ ap (λ n. map f (filter is (below n))) c.len-link-end.ensures ∙ sym (ap (map f) (into_is c.args.day.now c.args.node))
