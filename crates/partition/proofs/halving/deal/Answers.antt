use Rattle.std.proofs.Common.{◌≡◌, ◌∙◌, ◌<◌, arith, refl, sym, subst, length, get_or, set}
use Rattle.std.proofs.lemmas.List.{length-set, Elements.All-get_or}
use Rattle.partition.{proofs.Dealt.places_inside, proofs.Dealt.dealt_more, specs.Halves.partition_at, specs.Owned.owner_in}
use Rattle.partition.proofs.halving.deal.Goals as goal

pub index_mut-requires : goal.index_mut-requires
index_mut-requires c =
    let order = c.args.order.now in
    let inside = All-get_or (λ v. v < length order) order c.loop-place.place 0 c.loop-place-test.true (places_inside (length order) order c.requires.all) in
    let long = c.loop-place.of_node.ok.0 in
    let all = c.loop-place.invariant.long in
    omega (arith, inside, long, all)

pub loop-place-preserved : goal.loop-place-preserved
loop-place-preserved c =
    let order = c.args.order.now in
    let parts = c.args.parts in
    let k = c.loop-place.place in
    let old = c.loop-place.of_node.items in
    record {
      long = length-set old (get_or order k 0) c.partition_at.result ∙ c.loop-place.invariant.long;
      dealt = λ i h.
          subst (λ x. owner_in (set old (get_or order k 0) x) (get_or order i 0) ≡ partition_at (length order) parts i) (sym c.partition_at.ensures.value)
          (dealt_more parts (length order) k order old c.requires.all c.loop-place.invariant.long refl c.loop-place-test.true c.loop-place.invariant.dealt i h);
    }
