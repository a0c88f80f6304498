use Rattle.std.proofs.Common.{◌≡◌, map, take, Vec, Global}
use Rattle.router.specs.declared.star.Spoke.{Spoke}
use Rattle.router.proofs.star.star_beside.Given as goal

abbrev pub invariant-loop-list : goal.invariant-loop-list
invariant-loop-list l = l.star ≡ map (λ (list : Vec Spoke Global). list.items) (take l.list-index l.list-items)
