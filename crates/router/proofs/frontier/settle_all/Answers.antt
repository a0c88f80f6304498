use Rattle.std.proofs.Common.{arith, ◌≡◌, ℕ, Bool, [], subst, ap, ◌∙◌}
use Rattle.std.specs.Bool.{OnFalse}
use Rattle.travel_times.{proofs.Arriving.arrivals_are_fifo, specs.Times.arrivals}
use Rattle.walks.specs.Rounds.{least_labels}
use Rattle.router.proofs.{Answering.small_labels, Searching.all_least}
use Rattle.router.proofs.frontier.settle_all.Goals as goal

pub returns-clause-labels : goal.returns-clause-labels
returns-clause-labels c =
    let new = c.settle_next.new.frontier in
    let nodes = c.args.adjacency.now.nodes in
    let ends = c.args.adjacency.now.ends in
    let arrive = arrivals c.args.times.now in
    let from : new.from ≡ c.args.frontier.now.from = c.in_ok-settle_next.ensures.goes_on.from ∙ c.loop.invariant.goes_on.from in
    let second : new.second ≡ c.args.frontier.now.second = c.in_ok-settle_next.ensures.goes_on.second ∙ c.loop.invariant.goes_on.second in
    all_least nodes ends arrive (arrivals_are_fifo c.args.times.now) c.requires.inside new
    (let within = c.requires.from in omega arith) c.in_ok-settle_next.ensures.search
    (subst (λ (more : Bool). OnFalse more (new.queue ≡ [])) c.if-branch.false c.in_ok-settle_next.ensures.all)
    ∙ ap (λ (f : ℕ). least_labels nodes ends arrive f new.second) from
    ∙ ap (λ (s : ℕ). least_labels nodes ends arrive c.args.frontier.now.from s) second

pub returns-clause-small : goal.returns-clause-small
returns-clause-small c =
    small_labels c.args.adjacency.now.nodes c.args.adjacency.now.ends (arrivals c.args.times.now) c.settle_next.new.frontier []
    (arrivals_are_fifo c.args.times.now) c.requires.few c.in_ok-settle_next.ensures.search
