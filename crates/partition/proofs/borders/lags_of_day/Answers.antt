use Rattle.std.{proofs.Common.◌≡◌, proofs.Common.◌∙◌, proofs.Common.sym, proofs.Common.subst, proofs.Common.true, specs.List.list_all}
use Rattle.rows.specs.Networks.{is_link}
use Rattle.partition.{proofs.Ends.lag_table, specs.Owned.owner_in}
use Rattle.partition.proofs.borders.lags_of_day.Goals as goal

pub shorten_by_links-requires-clause-links : goal.shorten_by_links-requires-clause-links
shorten_by_links-requires-clause-links c =
    subst (λ ls. list_all (is_link c.len-nodes.result) ls ≡ true) (sym (c.deref.ensures.value ∙ c.links.view_is))
    (subst (λ n. list_all (is_link n) c.args.day.now.town.now.network.links ≡ true) (sym c.len-nodes.ensures) c.args.day.now.town.now.network.sound)

pub returns : goal.returns
returns c =
    lag_table c.args.day.now (owner_in c.args.owner.now.of_node) c.deref.result.now c.in_ok-lags.lags.items c.shorten_by_plans.new.lags c.shorten_by_links.new.lags
    c.deref_mut.result.now c.deref_mut-2.result.now c.in_ok-lags.lags.len (c.in_ok-lags.ensures.items_if_clones_equal (λ y e. e)) c.in_ok-lags.ensures.len
    (c.deref.ensures.value ∙ c.links.view_is) c.deref_mut.ensures.value c.shorten_by_plans.auto.lags c.deref_mut-2.ensures.value c.shorten_by_links.auto.lags
    c.shorten_by_plans.ensures c.shorten_by_links.ensures
