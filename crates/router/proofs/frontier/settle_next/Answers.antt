use Rattle.travel_times.specs.Times.{arrivals}
use Rattle.router.proofs.Searching.{next_search, done_search}
use Rattle.router.proofs.frontier.settle_next.Goals as goal

pub returns-in_default-clause-search : goal.returns-in_default-clause-search
returns-in_default-clause-search c =
    done_search c.args.adjacency.now.nodes c.args.adjacency.now.ends
    (arrivals c.args.times.now) c.args.frontier.now c.next.new.frontier c.requires.search c.in_default.ensures.none

pub look_along-requires-clause-search : goal.look_along-requires-clause-search
look_along-requires-clause-search c open_links all =
    next_search c.args.adjacency.now.nodes c.args.adjacency.now.ends
    (arrivals c.args.times.now) c.args.frontier.now c.next.new.frontier c.in-Some.entry c.requires.search c.in-Some.ensures.some
    open_links all
