use Rattle.std.proofs.Common.{arith, ◌≡◌, ◌<◌, ◌≤◌, ◌+◌, ◌^◌, max, ℕ, Bool, true, false, ◌∙◌, List, length, drop, get_or, Option, Some, sym, ap}
use Rattle.std.specs.Prelude.{All}
use Rattle.limits.specs.declared.TheConstants.{MAX_NODES}
use Rattle.std.proofs.lemmas.List.{length-map}
use Rattle.travel_times.{proofs.Arriving.arrivals_are_fifo, specs.Times.LinkProfile, specs.Times.arrivals}
use Rattle.walks.specs.{Rounds.label_at, Walks.Ends, Walks.start_of, Walks.end_of}
use Rattle.router.specs.{Frontiers.IsFrontier, Frontiers.IsRelabelled, Frontiers.is_later, Frontiers.work, declared.frontier.Frontier.Frontier}
use Rattle.router.specs.declared.star.Spoke.{Spoke}
use Rattle.router.proofs.Stars.{links_of, spoke_at, spoke_known, spoke_link}
use Rattle.router.proofs.Searching.{look_small, looked_kept, looked_earlier, later_read}
use Rattle.router.proofs.frontier.look.Goals as goal

pub arrive-arrival-requires-clause-link : goal.arrive-arrival-requires-clause-link
arrive-arrival-requires-clause-link c =
    let own = (spoke_known c.args.adjacency.now.nodes c.args.adjacency.now.ends c.args.links.now c.args.place c.requires.place c.requires.spokes).0 in
    let times = c.requires.times in
    omega arith

pub arrive-arrival-requires-clause-second : goal.arrive-arrival-requires-clause-second
arrive-arrival-requires-clause-second c =
    look_small c.args.adjacency.now.nodes c.args.adjacency.now.ends (arrivals c.args.times.now) c.args.frontier.now _ _ c.args.left
    (arrivals_are_fifo c.args.times.now) c.requires.few c.requires.search c.requires.left

pub is_later-requires : goal.is_later-requires
is_later-requires c =
    let small = look_small c.args.adjacency.now.nodes c.args.adjacency.now.ends (arrivals c.args.times.now) c.args.frontier.now
    (drop c.args.place (links_of c.args.links.now)) (start_of c.args.adjacency.now.ends (get_or (links_of c.args.links.now) c.args.place 0)) c.args.left
    (arrivals_are_fifo c.args.times.now) c.requires.few c.requires.search c.requires.left in
    let soon = c.arrive-arrival.ensures.soon in
    omega arith

pub relabel-requires-clause-second : goal.relabel-requires-clause-second
relabel-requires-clause-second c =
    let small = look_small c.args.adjacency.now.nodes c.args.adjacency.now.ends (arrivals c.args.times.now) c.args.frontier.now
    (drop c.args.place (links_of c.args.links.now)) (start_of c.args.adjacency.now.ends (get_or (links_of c.args.links.now) c.args.place 0)) c.args.left
    (arrivals_are_fifo c.args.times.now) c.requires.few c.requires.search c.requires.left in
    let soon = c.arrive-arrival.ensures.soon in
    omega arith

-- the label of the node at the other end was read and tested
module _ (nodes : ℕ) (ends : Ends) (times : List LinkProfile) (old : Frontier) (links : List Spoke) (place left reached : ℕ)
    (few : nodes ≤ MAX_NODES) (within : place < length links)
    (spokes : All (λ (s : Spoke). (s.link < length ends) × (s.node ≡ end_of ends s.link) × (s.node < nodes)) links)
    (search : IsFrontier nodes ends (arrivals times) old (drop place (links_of links)))
    (starts : label_at old.labels.items (start_of ends (get_or (links_of links) place 0)) ≡ Some left)
    (horizon : old.horizon ≤ left)
    (is : reached ≡ arrivals times (spoke_at links place).link left) (label : Option ℕ)
    (read : label ≡ get_or old.labels.items (spoke_at links place).node label) (later : Bool) (tested : later ≡ is_later label reached) where
  known : ((spoke_at links place).link < length ends) × ((spoke_at links place).node ≡ end_of ends (spoke_at links place).link)
      × ((spoke_at links place).node < nodes)
  known = spoke_known nodes ends links place within spokes

  place_there : place < length (links_of links)
  place_there = let count = length-map links (λ (s : Spoke). s.link) in omega arith

  node_there : (spoke_at links place).node < length old.labels.items
  node_there = let count = search.search.count in let own = known.2 in omega arith

  label_is : is_later (label_at old.labels.items (spoke_at links place).node) reached ≡ later
  label_is = later_read old.labels.items (spoke_at links place).node reached label later node_there read tested

  arrival_is : reached ≡ arrivals times (get_or (links_of links) place 0) left
  arrival_is = is ∙ ap (λ (l : ℕ). arrivals times l left) (sym (spoke_link links place within))

  node_is : (spoke_at links place).node ≡ end_of ends (get_or (links_of links) place 0)
  node_is = known.1 ∙ ap (end_of ends) (sym (spoke_link links place within))

  earlier : (new : Frontier) → reached ≤ max left (2 ^ 33) + 2 ^ 32 → later ≡ true → IsRelabelled old new (spoke_at links place).node reached
      → IsFrontier nodes ends (arrivals times) new (drop (place + 1) (links_of links)) × (work new ≤ work old)
  earlier new soon yes' relabelled =
      looked_earlier nodes ends (arrivals times) old new (links_of links) place left reached (spoke_at links place).node
      (arrivals_are_fifo times) few place_there
      (let own = known.0 in let at = spoke_link links place within in omega arith)
      search starts horizon arrival_is soon node_is known.2 (label_is ∙ yes') relabelled

  kept : later ≡ false → IsFrontier nodes ends (arrivals times) old (drop (place + 1) (links_of links))
  kept no' =
      looked_kept nodes ends (arrivals times) old (links_of links) place left reached (spoke_at links place).node (arrivals_are_fifo times)
      place_there search starts arrival_is node_is (label_is ∙ no')

pub returns-then-is_later-clause-search : goal.returns-then-is_later-clause-search
returns-then-is_later-clause-search c =
    (earlier c.args.adjacency.now.nodes c.args.adjacency.now.ends c.args.times.now c.args.frontier.now c.args.links.now c.args.place
    c.args.left c.arrive-arrival.result c.requires.few c.requires.place c.requires.spokes c.requires.search c.requires.left
    c.requires.horizon c.arrive-arrival.ensures.value c.index.result.now c.index.ensures c.is_later.result c.is_later.ensures
    c.relabel.new.frontier c.arrive-arrival.ensures.soon c.if-is_later.true c.in_ok-relabel.ensures).0

pub returns-then-is_later-clause-goes_on : goal.returns-then-is_later-clause-goes_on
returns-then-is_later-clause-goes_on c = (
  c.in_ok-relabel.ensures.goes_on,
  c.in_ok-relabel.ensures.horizon,
  (earlier c.args.adjacency.now.nodes c.args.adjacency.now.ends c.args.times.now c.args.frontier.now c.args.links.now c.args.place
      c.args.left c.arrive-arrival.result c.requires.few c.requires.place c.requires.spokes c.requires.search c.requires.left
      c.requires.horizon c.arrive-arrival.ensures.value c.index.result.now c.index.ensures c.is_later.result c.is_later.ensures
      c.relabel.new.frontier c.arrive-arrival.ensures.soon c.if-is_later.true c.in_ok-relabel.ensures).1,
)

pub returns-clause-search : goal.returns-clause-search
returns-clause-search c =
    kept c.args.adjacency.now.nodes c.args.adjacency.now.ends c.args.times.now c.args.frontier.now c.args.links.now c.args.place
    c.args.left c.arrive-arrival.result c.requires.few c.requires.place c.requires.spokes c.requires.search c.requires.left
    c.requires.horizon c.arrive-arrival.ensures.value c.index.result.now c.index.ensures c.is_later.result c.is_later.ensures
    c.if-is_later.false
