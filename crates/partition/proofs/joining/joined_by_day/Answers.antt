use Rattle.std.proofs.Common.{◌∙◌}
use Rattle.partition.{proofs.Ends.joined_table, specs.Owned.owner_in}
use Rattle.partition.proofs.joining.joined_by_day.Goals as goal

pub returns : goal.returns
returns c =
    joined_table c.args.day.now (owner_in c.args.owner.now.of_node) c.deref.result.now c.in_ok-joined.joined.items c.join_by_links.new.joined c.join_by_plans.new.joined
    c.deref_mut.result.now c.deref_mut-2.result.now c.in_ok-joined.joined.len (c.in_ok-joined.ensures.items_if_clones_equal (λ y e. e)) c.in_ok-joined.ensures.len
    (c.deref.ensures.value ∙ c.links.view_is) c.deref_mut.ensures.value c.join_by_links.auto.joined c.deref_mut-2.ensures.value c.join_by_plans.auto.joined
    c.join_by_links.ensures c.join_by_plans.ensures
