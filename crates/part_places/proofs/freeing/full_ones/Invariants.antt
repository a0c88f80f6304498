use Rattle.std.{proofs.Common.◌≡◌, proofs.Common.◌++◌, proofs.Common.length, specs.Prelude.filter}
use Rattle.part_places.specs.Taking.{is_full_in}
use Rattle.part_places.proofs.freeing.full_ones.Given as goal

abbrev pub invariant-loop-rest : goal.invariant-loop-rest
invariant-loop-rest l = l.full.items ++ filter (is_full_in l.space) l.rest ≡ filter (is_full_in l.space) l.links

abbrev pub decreases-loop-rest : goal.decreases-loop-rest
decreases-loop-rest l = length l.rest
