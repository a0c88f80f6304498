use Rattle.std.proofs.Common.{rules, arith, ◌≡◌, Bool, [], subst}
use Rattle.std.specs.Bool.{OnFalse}
use Rattle.travel_times.{proofs.Arriving.arrivals_are_fifo, specs.Times.arrivals}
use Rattle.router.proofs.Searching.{settled_by_end, settled_by_now}
use Rattle.router.proofs.frontier.settle.Goals as goal

pub returns-then-not-branch-clause-settled : goal.returns-then-not-branch-clause-settled
returns-then-not-branch-clause-settled c =
    settled_by_end c.args.adjacency.now.nodes c.args.adjacency.now.ends (arrivals c.args.times.now) (arrivals_are_fifo c.args.times.now)
    c.requires.inside c.settle_next.new.frontier c.args.node
    (let before = c.loop-frontier.invariant.goes_on.from in let same = c.in_ok-settle_next.ensures.goes_on.from in
    let within = c.requires.from in omega arith)
    c.in_ok-settle_next.ensures.search (subst (λ (more : Bool). OnFalse more (c.settle_next.new.frontier.queue ≡ []))
    c.if-not-branch.true c.in_ok-settle_next.ensures.all)

pub returns-clause-settled : goal.returns-clause-settled
returns-clause-settled c =
    settled_by_now c.args.adjacency.now.nodes c.args.adjacency.now.ends (arrivals c.args.times.now) (arrivals_are_fifo c.args.times.now)
    c.requires.inside c.loop-frontier.frontier c.args.node
    (let before = c.loop-frontier.invariant.goes_on.from in let within = c.requires.from in omega arith)
    c.loop-frontier.invariant.search (c.loop-frontier-test.ensures.0 (search rules))
