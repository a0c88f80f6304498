use Rattle.std.proofs.Common.{◌≡◌, [], map, replicate, Vec, Global}
use Rattle.router.specs.declared.star.Spoke.{Spoke}
use Rattle.router.proofs.star.no_lists.Given as goal

abbrev pub invariant-loop : goal.invariant-loop
invariant-loop l = map (λ (list : Vec Spoke Global). list.items) l.lists.items ≡ replicate l.counter []
