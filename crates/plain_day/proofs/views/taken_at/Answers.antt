use Rattle.traffic.proofs.Common.{◌∙◌, ap, World}
use Rattle.town.specs.Views.{setup}
use Rattle.plain_day.proofs.Seen.{taken_is}
use Rattle.plain_day.proofs.views.taken_at.Goals as goal

pub returns : goal.returns
returns c =
    taken_is (setup c.args.day.now) c.args.second c.args.link c.args.world.now c.deref.result.now c.deref-2.result.now c.count_at-queue.result c.hole_of-h.result
    c.count_in_force-holes.result c.in-Some.taken (c.deref.ensures.value ∙ ap (λ (W : World). W.rows) c.world.view_is)
    (c.deref-2.ensures.value ∙ ap (λ (W : World). W.holes) c.world.view_is) c.count_at-queue.ensures c.hole_of-h.ensures c.count_in_force-holes.ensures c.in-Some.ensures.1
