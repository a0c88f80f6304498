use Rattle.std.proofs.Common.{◌≡◌, ◌∙◌, ap, sym, arith}
use Rattle.rows.specs.declared.network.LinkRow.{LinkRow}
use Rattle.town.specs.Views.{setup}
use Rattle.parts.specs.Owners.{begins_in}
use Rattle.partition.specs.Owned.{owner_in}
use Rattle.divided_day.proofs.{Lists.none_listed, Lists.listed_more, Lists.all_listed, Whole.links_of}
use Rattle.divided_day.proofs.listing.links_that_begin.Goals as goal

pub loop-link-init : goal.loop-link-init
loop-link-init c =
    none_listed (begins_in (setup c.args.day.now) (owner_in c.args.owner.now.of_node)) c.args.owner.now.parts c.in_ok-lists.lists.items
    c.in_ok-lists.ensures

pub add-requires : goal.add-requires
add-requires c =
    let is = c.owner_of_node-partition.ensures in
    let lt = c.args.owner.now.owned c.link_row-row.result.from in
    let all = c.loop-link.invariant.many in
    omega (arith, is, lt, all)

pub loop-link-preserved : goal.loop-link-preserved
loop-link-preserved c =
    let own = owner_in c.args.owner.now.of_node in
    let is = c.owner_of_node-partition.ensures in
    let lt = c.args.owner.now.owned c.link_row-row.result.from in
    listed_more (begins_in (setup c.args.day.now) own) c.args.owner.now.parts c.loop-link.link c.loop-link.lists.items
    c.add.new.lists.items c.owner_of_node-partition.result (omega (arith, is, lt))
    (is ∙ ap (λ (row : LinkRow). own row.from) (sym c.link_row-row.ensures.row)) c.in_ok-add.ensures c.loop-link.invariant

pub returns : goal.returns
returns c =
    let S = setup c.args.day.now in
    let a = c.loop-link-test.false in
    let b = c.loop-link.auto.link-end in
    let n : c.loop-link.link ≡ c.len-link-end.result = omega (arith, a, b) in
    all_listed (begins_in S (owner_in c.args.owner.now.of_node)) c.args.owner.now.parts c.loop-link.link _ c.loop-link.lists.items
    c.loop-link.invariant (n ∙ c.len-link-end.ensures ∙ sym (links_of c.args.day.now))
