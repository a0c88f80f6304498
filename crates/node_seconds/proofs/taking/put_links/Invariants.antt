use Rattle.std.proofs.Common.{◌≡◌, ◌++◌, List}
use Rattle.queue_link.specs.Links.{LinkView}
use Rattle.node_seconds.specs.Networks.{put_back}
use Rattle.node_seconds.proofs.taking.put_links.Given as goal

abbrev pub invariant-loop-link : goal.invariant-loop-link
invariant-loop-link l = record {
  left : (vs : List LinkView) → put_back l.rest vs l.links ≡ put_back l.slots (l.yielded ++ vs) l.initial.links;
  so_far : l.links ≡ put_back l.slots l.yielded l.initial.links;
}
