use Rattle.std.proofs.Common.{◌≡◌, ℕ, ◌-◌, take}
use Rattle.node_move.specs.{Entries.fewer, Spaces.places_in, Spaces.holes_in}
use Rattle.part_places.specs.Taking.{times}
use Rattle.part_places.proofs.freeing.free_all.Given as goal

abbrev pub invariant-loop-link : goal.invariant-loop-link
invariant-loop-link l = record {
  space : (m : ℕ) → places_in l.space m ≡ fewer (times m (take l.link-index l.links)) (places_in l.initial.space m);
  holes : (m : ℕ) → holes_in l.space m ≡ holes_in l.initial.space m - times m (take l.link-index l.links);
}
