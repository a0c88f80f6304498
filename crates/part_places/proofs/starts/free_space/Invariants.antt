use Rattle.std.proofs.Common.{◌≡◌, ℕ, take}
use Rattle.town.specs.Views.{setup}
use Rattle.node_move.specs.Spaces.{holes_in}
use Rattle.part_places.specs.Taking.{AreFree}
use Rattle.part_places.proofs.starts.free_space.Given as goal

abbrev pub invariant-loop-link : goal.invariant-loop-link
invariant-loop-link l = record {
  free : AreFree (setup l.day) (take l.link-index l.links) l.space;
  holes : (m : ℕ) → holes_in l.space m ≡ 0;
}
