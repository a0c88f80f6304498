use Rattle.std.proofs.Common.{rules, ◌≡◌, ℕ, Some, Option, subst}
use Rattle.travel_times.{proofs.Arriving.arrivals_are_fifo, specs.Times.arrivals}
use Rattle.rows.specs.Joined.{ends_of}
use Rattle.walks.{proofs.Least.bounds_walks, specs.Rounds.label_at, specs.Rounds.IsBy, specs.Walks.arrival}
use Rattle.route_check.proofs.check.Goals as goal

pub returns-clause-none_earlier : goal.returns-clause-none_earlier
returns-clause-none_earlier c holds links walk =
    let start : label_at c.args.labels.now c.args.from ≡ Some c.args.second = search rules in
    let end : label_at c.args.labels.now c.args.to ≡ Some c.args.claimed = search rules in
    let by : IsBy (label_at c.args.labels.now c.args.to) (arrival (arrivals c.args.times.now) c.args.second links) =
    bounds_walks (ends_of c.args.network.now.links) (arrivals c.args.times.now) (arrivals_are_fifo c.args.times.now) c.args.from
    c.args.second c.args.labels.now start (c.are_kept.ensures.0 holds) c.args.to links walk in
    let P : Option ℕ → Type 0 = λ o. IsBy o (arrival (arrivals c.args.times.now) c.args.second links) in
    subst P end by
