use Rattle.std.proofs.Common.{◌∙◌, refl, sym, ap, subst, true}
use Rattle.std.specs.Vec.Iter.{into_iter_items}
use Rattle.parts.specs.Merge.{Merges}
use Rattle.event_merge.{proofs.Keys.order_of_keys, proofs.Merged.vectors_give, proofs.Merged.all_sorted, proofs.Merged.merged, specs.Lists.comes_before}
use Rattle.event_merge.proofs.merging.merge.Goals as goal

pub returns : goal.returns
returns c =
    let lists = c.args.lists.items in
    let own = c.in_ok-lists.lists.items in
    let ran = c.in_ok-merged.ensures.ran in
    let items = c.in_ok-merge.ensures.items in
    let order = c.in_ok-merge.ensures.in_order in
    let all =
    items.3 lists (vectors_give _ (λ u j k. (k.0, k.1)) own items.0.items lists
    ((c.into_iter.ensures.runs items.0 items.0.seen).4 items.2 ∙ ap into_iter_items items.1 ∙ c.into_iter.ensures.rest) c.in_ok-lists.ensures)
    ran.0 true (ran.1.0, ran.1.1, λ w. ran.1.2 tt) in
    let up =
    order.3 comes_before refl order_of_keys lists (vectors_give _ (λ u j k. (k.0, k.1)) own order.0.items lists
    ((c.into_iter.ensures.runs order.0 order.0.seen).4 order.2 ∙ ap into_iter_items order.1 ∙ c.into_iter.ensures.rest) c.in_ok-lists.ensures)
    (all_sorted lists c.requires.ascend) ran.0 true (ran.1.0, ran.1.1, λ w. ran.1.2 tt) in
    subst (λ ys. Merges lists ys) (sym ran.2.0) (merged lists ran.0 all.0 c.requires all.1 (all.2 refl) up)
