use Rattle.std.proofs.Common.{◌≡◌, ◌∙◌, ◌<◌, ◌&&◌, ℕ, [], ◌∷◌, ◌++◌, not, true, false, length, get_or, ap, sym, subst, arith, length-append}
use Rattle.traffic.specs.Lists.{is_nil}
use Rattle.queue_link.specs.Links.{LinkView}
use Rattle.node_move.proofs.Drawing.{joins, stays_out, all_looked_at, below_more, below_later, places_more, weights_more, some_more}
use Rattle.node_move.proofs.{Places.is_at, candidates.candidates_in.Goals.then-is_candidate+in_ok-push+in_ok-push-2}
use Rattle.node_move.{proofs.candidates.candidates_in.Goals.else-is_candidate, specs.NodeStates.no_link}
use Rattle.node_move.proofs.candidates.candidates_in.Goals as goal

pub loop-place-preserved : goal.loop-place-preserved
loop-place-preserved c =
    let vs = c.args.in_links.now in
    let gs = c.args.greens.now in
    let k = c.loop-place.place in
    let ks = c.loop-place.places.items in
    let ws = c.loop-place.weights.items in
    let i = c.loop-place.invariant in
    let lt = c.loop-place-test.true in
    let in_vs : k < length vs = omega (arith, lt, c.requires.lit) in
    let v : c.index-in_links-place.result ≡ get_or vs k no_link = is_at vs k c.index-in_links-place.result in_vs c.index-in_links-place.is in
    elim c.if-is_candidate.branch [
      | then-is_candidate+in_ok-push+in_ok-push-2 w ↦
          let e : (get_or gs k false && not (is_nil (get_or vs k no_link).lists.buffer)) ≡ true
          = subst (λ (x : LinkView). (get_or gs k false && not (is_nil x.lists.buffer)) ≡ true) v
          (sym c.is_candidate.ensures ∙ w.if-is_candidate.true) in
          let n = w.numbers.ensures.near in
          let cap : w.numbers.result.capacity ≡ (get_or vs k no_link).numbers.capacity
          = ap (λ m. m.capacity) w.numbers.ensures.value ∙ ap (λ (x : LinkView). x.numbers.capacity) v in
          rw (w.places-is, w.weights-is, w.in_ok-push.ensures.items)
          (record {
            value = joins vs gs k false ks lt c.requires.lit e i.value;
            places = places_more (length vs) k ks i.places i.below in_vs;
            below = below_more k ks i.below;
            weights =
                weights_more vs ks k ws _ i.weights (w.in_ok-push-2.ensures.items ∙ ap (λ (x : ℕ). ws ++ x ∷ []) (w.from.ensures ∙ cap));
            some =
                some_more vs ks k i.some (let a = n.some_capacity in omega arith) (let b = n.most_capacity in omega arith);
            few = omega (arith, i.few, length-append ks (k ∷ []));
          })
      | else-is_candidate w ↦
          let e : (get_or gs k false && not (is_nil (get_or vs k no_link).lists.buffer)) ≡ false
          = subst (λ (x : LinkView). (get_or gs k false && not (is_nil x.lists.buffer)) ≡ false) v
          (sym c.is_candidate.ensures ∙ w.if-is_candidate.false) in
          rw (w.places-is, w.weights-is)
          (record {
            value = stays_out vs gs k false ks lt c.requires.lit e i.value;
            places = i.places;
            below = below_later k ks i.below;
            weights = i.weights;
            some = i.some;
            few = omega (arith, i.few);
          })
    ]

pub returns-clause-value : goal.returns-clause-value
returns-clause-value c =
    all_looked_at c.args.in_links.now c.args.greens.now c.loop-place.place c.loop-place.places.items c.loop-place-test.false c.requires.lit
    c.loop-place.invariant.value
