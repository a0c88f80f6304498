use Rattle.std.proofs.Common.{◌≡◌, ◌<◌, ◌+◌, ◌-◌, ◌≤◌, ◌++◌, ℕ, List, [], length, reverse, Some, ap, sym, ◌∙◌}
use Rattle.travel_times.{proofs.Arriving.arrivals_are_fifo, specs.Times.arrivals}
use Rattle.walks.{proofs.Followed.link_leads, specs.Chosen.followed, specs.Rounds.label_at, specs.Rounds.rank}
use Rattle.router.proofs.Backs.{labelled, back_start, back_more, back_none, back_here}
use Rattle.router.{proofs.ways.followed_back.Goals.else-loop-node-test, proofs.ways.followed_back.Goals.then-loop-node-test+in_default, specs.Ways.label_or_0}
use Rattle.router.proofs.ways.followed_back.Goals as goal

pub loop-node-init : goal.loop-node-init
loop-node-init c =
    let begin = back_start c.args.adjacency.now.ends (arrivals c.args.times.now) c.args.labels.now c.args.from c.args.adjacency.now.nodes
    c.args.to c.new-links.result.items c.requires.labels c.new-links.ensures.items in
    record {
      within = c.requires.to;
      labelled = labelled c.args.labels.now c.args.to c.requires.label;
      left = begin.0;
      way = begin.1;
    }

pub start-node-requires : goal.start-node-requires
start-node-requires c =
    (link_leads c.args.adjacency.now.ends (arrivals c.args.times.now) c.args.labels.now c.loop-node.node c.in-Some.link
    (sym c.link_before.ensures ∙ c.in-Some.is)).0

step : (c : goal.After-start-node) →
    (label_at c.args.labels.now c.start-node.result ≡ Some (label_or_0 c.args.labels.now c.start-node.result))
    × (label_or_0 c.args.labels.now c.start-node.result < label_or_0 c.args.labels.now c.loop-node.node)
    × (rank c.args.labels.now (label_or_0 c.args.labels.now c.start-node.result) + length c.push.new.self.items ≤
    c.args.adjacency.now.nodes)
    × (followed c.args.adjacency.now.ends (arrivals c.args.times.now) c.args.labels.now c.args.from c.args.adjacency.now.nodes c.args.to
    ≡ followed c.args.adjacency.now.ends (arrivals c.args.times.now) c.args.labels.now c.args.from
    (c.args.adjacency.now.nodes - length c.push.new.self.items) c.start-node.result ++ reverse c.push.new.self.items)
step c =
    back_more c.args.adjacency.now.ends (arrivals c.args.times.now) c.args.labels.now c.args.from c.args.adjacency.now.nodes c.args.to
    c.loop-node.node c.in-Some.link c.start-node.result c.loop-node.links.items c.push.new.self.items
    (arrivals_are_fifo c.args.times.now) c.loop-node-test.true (sym c.link_before.ensures ∙ c.in-Some.is) c.loop-node.invariant.labelled
    c.start-node.ensures.node c.in_ok-push.ensures.items c.loop-node.invariant.left c.loop-node.invariant.way

pub loop-node-smaller : goal.loop-node-smaller
loop-node-smaller c = (step c).1

pub loop-node-preserved : goal.loop-node-preserved
loop-node-preserved c = record {
  within = c.start-node.ensures.within;
  labelled = (step c).0;
  left = (step c).2;
  way = (step c).3;
}

pub returns : goal.returns
returns c =
    let most = c.args.adjacency.now.nodes - length c.loop-node.links.items in
    let nothing_left : followed c.args.adjacency.now.ends (arrivals c.args.times.now) c.args.labels.now c.args.from most c.loop-node.node ≡ [] =
    elim c.loop-node-test.branch [
      | else-loop-node-test w ↦
          back_here c.args.adjacency.now.ends (arrivals c.args.times.now) c.args.labels.now c.args.from most c.loop-node.node
          w.loop-node-test.false
      | then-loop-node-test+in_default w ↦
          back_none c.args.adjacency.now.ends (arrivals c.args.times.now) c.args.labels.now c.args.from most c.loop-node.node
          (sym w.link_before.ensures ∙ w.in_default.is)
    ] in
    c.reverse.ensures.items ∙ sym (c.loop-node.invariant.way ∙ ap (λ (links : List ℕ). links ++ reverse c.loop-node.links.items) nothing_left)
