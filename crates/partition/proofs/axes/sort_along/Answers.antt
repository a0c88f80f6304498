use Rattle.std.proofs.{Common.◌≡◌, Common.rules, lemmas.Fn.always_returns_same}
use Rattle.partition.proofs.Order.{spot_of, sorted_along}
use Rattle.partition.proofs.axes.sort_along.Goals as goal

pub returns-clause-sorted : goal.returns-clause-sorted
returns-clause-sorted c =
    let axis = c.args.axis in
    let nodes = c.args.nodes.now in
    sorted_along axis nodes c.sort_unstable_by_key.new.self (c.sort_unstable_by_key.ensures.sorted (spot_of axis nodes) (always_returns_same _ (λ a r. r ≡ spot_of axis nodes a.0.now) _ (λ a r q k. search rules)))
