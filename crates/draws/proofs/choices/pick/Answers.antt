use Rattle.std.proofs.Common.{rules, arith, ◌≡◌, ℕ, ◌+◌, take, sum, slice_index, ap, sym, ◌∙◌}
use Rattle.std.proofs.lemmas.List.Sums.{sum_by_more}
use Rattle.draws.{proofs.Sums.pick_is, specs.Choices.below}
use Rattle.draws.proofs.choices.pick.Goals as goal

pub returns-then-target-running-clause-value : goal.returns-then-target-running-clause-value
returns-then-target-running-clause-value c =
    let total : c.sum-total.result ≡ sum c.args.weights.now = search rules in
    let target : c.below-target.result ≡ below (sum c.args.weights.now) c.args.word =
    c.below-target.ensures.value ∙ ap (λ (t : ℕ). below t c.args.word) total in
    let more : sum (take (c.loop-place.place + 1) c.args.weights.now)
    ≡ sum (take c.loop-place.place c.args.weights.now) + slice_index c.args.weights.now c.loop-place.place =
    sum_by_more (λ (x : ℕ). x) c.args.weights.now c.loop-place.place 0 c.loop-place-test.true in
    sym (pick_is c.args.weights.now c.args.word c.loop-place.place c.loop-place-test.true (omega arith) (omega arith))
