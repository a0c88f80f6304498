use Rattle.std.proofs.Common.{List, sym, refl}
use Rattle.queue_link.specs.Links.{LinkView}
use Rattle.node_seconds.proofs.Lanes.{put_none, left_next, left_none, put_so_far}
use Rattle.node_seconds.proofs.taking.put_links.Goals as goal

pub loop-link-init : goal.loop-link-init
loop-link-init c = record { left = λ vs. refl; so_far = sym (put_none c.args.slots.now c.args.links.now) }

pub loop-link-preserved-then-rest-lt1 : goal.loop-link-preserved-then-rest-lt1
loop-link-preserved-then-rest-lt1 c =
    let left = λ (vs : List LinkView). left_none c.loop-link.rest.now c.args.slots.now c.loop-link.yielded c.in-Some.link c.loop-link.links c.args.links.now vs
    c.in_default.len_below c.loop-link.invariant.left in
    record { left = left; so_far = put_so_far c.loop-link.rest.now c.args.slots.now _ c.loop-link.links c.args.links.now left }

pub loop-link-preserved : goal.loop-link-preserved
loop-link-preserved c =
    let left = λ (vs : List LinkView). left_next c.loop-link.rest.now c.args.slots.now c.loop-link.yielded c.in-Some.link c.loop-link.links c.args.links.now
    c.put_link.new.links vs c.in-len1-up.len_at_least c.put_link.ensures c.loop-link.invariant.left in
    record { left = left; so_far = put_so_far _ c.args.slots.now _ c.put_link.new.links c.args.links.now left }
