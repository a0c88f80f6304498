use Rattle.std.proofs.Common.{◌≡◌, length, take}
use Rattle.partition.specs.{Neighbours.AreShorter, Neighbours.shortest, Neighbours.hole_at, Neighbours.leads_over, Owned.owner_in}
use Rattle.travel_times.specs.Times.{free_of}
use Rattle.partition.proofs.borders.shorten_by_links.Given as goal

abbrev pub invariant-loop-link : goal.invariant-loop-link
invariant-loop-link l = record {
  long : length l.lags ≡ 4096;
  short : AreShorter (λ p q n. shortest free_of (leads_over (owner_in l.owner.of_node) p q) (take l.link-index l.links)
      (shortest (hole_at l.hole_speed) (leads_over (owner_in l.owner.of_node) q p) (take l.link-index l.links) n)) l.initial.lags l.lags;
}
