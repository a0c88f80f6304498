use Rattle.std.proofs.Common.{◌≡◌, map, vec_items}
use Rattle.event_merge.proofs.merging.rows_of.Given as goal

abbrev pub invariant-loop-list : goal.invariant-loop-list
invariant-loop-list l = map vec_items l.all.items ≡ l.yielded
