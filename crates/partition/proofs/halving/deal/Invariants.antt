use Rattle.std.proofs.Common.{◌≡◌, ℕ, ◌<◌, length, get_or}
use Rattle.partition.specs.{Halves.partition_at, Owned.owner_in}
use Rattle.partition.proofs.halving.deal.Given as goal

abbrev pub invariant-loop-place : goal.invariant-loop-place
invariant-loop-place l = record {
  long : length l.of_node.items ≡ length l.order;
  dealt : (i : ℕ) → i < l.place → owner_in l.of_node.items (get_or l.order i 0) ≡ partition_at (length l.order) l.parts i;
}
