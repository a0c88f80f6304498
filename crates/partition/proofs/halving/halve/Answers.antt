use Rattle.std.proofs.Common.{◌≡◌, ◌∙◌, arith, refl, sym, ap, subst, length}
use Rattle.std.{proofs.lemmas.List.Sorted.length_permutation, specs.List.Sorted.IsPermutation}
use Rattle.traffic.specs.Lists.{below}
use Rattle.partition.specs.Halves.{IsHalved}
use Rattle.partition.proofs.Dealt.{length-below, whole_share, written_back, dealt_from, all_owned, halved}
use Rattle.partition.proofs.halving.halve.Goals as goal

pub arrange-requires-clause-share : goal.arrange-requires-clause-share
arrange-requires-clause-share c =
    let start : c.deref_mut.result.now ≡ below (length c.deref.result.now) = c.deref_mut.ensures.value ∙ c.in_ok-order.ensures ∙ ap below (c.len.ensures ∙ sym c.deref.ensures.len) in
    whole_share (length c.deref.result.now) c.args.parts (length c.deref_mut.result.now) c.requires.some (length-below (length c.deref.result.now) c.deref_mut.result.now start)

pub deal-requires-clause-few_nodes : goal.deal-requires-clause-few_nodes
deal-requires-clause-few_nodes c =
    let start : c.deref_mut.result.now ≡ below (length c.deref.result.now) = c.deref_mut.ensures.value ∙ c.in_ok-order.ensures ∙ ap below (c.len.ensures ∙ sym c.deref.ensures.len) in
    let members = length_permutation _ _ c.arrange.ensures.same in
    let order = c.deref-2.ensures.value ∙ written_back c.arrange.new.members c.in_ok-order.order.items c.in_ok-order.order.len (sym (members ∙ c.deref_mut.ensures.len)) in
    let long : length c.deref-2.result.now ≡ length c.deref.result.now = ap length order ∙ members ∙ length-below (length c.deref.result.now) c.deref_mut.result.now start in
    let nodes : length c.deref.result.now ≡ length c.args.network.now.nodes = ap length (c.deref.ensures.value ∙ c.nodes.view_is) in
    let few = c.args.network.now.few_nodes in
    omega (arith, long, nodes, few)

pub deal-requires-clause-all : goal.deal-requires-clause-all
deal-requires-clause-all c =
    let start : c.deref_mut.result.now ≡ below (length c.deref.result.now) = c.deref_mut.ensures.value ∙ c.in_ok-order.ensures ∙ ap below (c.len.ensures ∙ sym c.deref.ensures.len) in
    let members = length_permutation _ _ c.arrange.ensures.same in
    let order = c.deref-2.ensures.value ∙ written_back c.arrange.new.members c.in_ok-order.order.items c.in_ok-order.order.len (sym (members ∙ c.deref_mut.ensures.len)) in
    let long : length c.deref-2.result.now ≡ length c.deref.result.now = ap length order ∙ members ∙ length-below (length c.deref.result.now) c.deref_mut.result.now start in
    subst (λ n. IsPermutation (below n) c.deref-2.result.now) (sym long)
    (subst (λ xs. IsPermutation (below (length c.deref.result.now)) xs) (sym order) (subst (λ xs. IsPermutation xs c.arrange.new.members) start c.arrange.ensures.same))

pub invariant_of-result : goal.invariant_of-result
invariant_of-result c =
    let start : c.deref_mut.result.now ≡ below (length c.deref.result.now) = c.deref_mut.ensures.value ∙ c.in_ok-order.ensures ∙ ap below (c.len.ensures ∙ sym c.deref.ensures.len) in
    let members = length_permutation _ _ c.arrange.ensures.same in
    let order = c.deref-2.ensures.value ∙ written_back c.arrange.new.members c.in_ok-order.order.items c.in_ok-order.order.len (sym (members ∙ c.deref_mut.ensures.len)) in
    let nodes = c.deref.result.now in
    let D = dealt_from nodes c.args.parts c.deref_mut.result.now c.arrange.new.members c.deref-2.result.now c.in_ok-rows.rows.items c.requires.some start c.arrange.ensures.same order
    c.arrange.ensures.cut c.in_ok-rows.ensures.0 c.in_ok-rows.ensures.1 in
    record { some = c.requires.some; few = c.requires.few; owned = all_owned nodes c.args.parts c.deref-2.result.now c.in_ok-rows.rows.items D }

pub returns : goal.returns
returns c =
    let start : c.deref_mut.result.now ≡ below (length c.deref.result.now) = c.deref_mut.ensures.value ∙ c.in_ok-order.ensures ∙ ap below (c.len.ensures ∙ sym c.deref.ensures.len) in
    let members = length_permutation _ _ c.arrange.ensures.same in
    let order = c.deref-2.ensures.value ∙ written_back c.arrange.new.members c.in_ok-order.order.items c.in_ok-order.order.len (sym (members ∙ c.deref_mut.ensures.len)) in
    let nodes = c.deref.result.now in
    let D = dealt_from nodes c.args.parts c.deref_mut.result.now c.arrange.new.members c.deref-2.result.now c.in_ok-rows.rows.items c.requires.some start c.arrange.ensures.same order
    c.arrange.ensures.cut c.in_ok-rows.ensures.0 c.in_ok-rows.ensures.1 in
    (refl, subst (λ ns. IsHalved ns c.args.parts c.in_ok-rows.rows.items) (c.deref.ensures.value ∙ c.nodes.view_is) (halved nodes c.args.parts c.deref-2.result.now c.in_ok-rows.rows.items D))
