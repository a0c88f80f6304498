use Rattle.std.{proofs.Common.◌≡◌, proofs.Common.map, proofs.Common.length, proofs.Common.Vec, proofs.Common.Global, specs.Prelude.slice_index}
use Rattle.router.specs.Stars.{AreBeside}
use Rattle.router.specs.declared.star.Spoke.{Spoke}
use Rattle.router.proofs.star.lists_beside.Given as goal

abbrev pub invariant-loop-link : goal.invariant-loop-link
invariant-loop-link l = record {
  count : length l.lists.items ≡ l.nodes;
  lists : AreBeside (slice_index l.beside) (slice_index l.others) l.link (map (λ (list : Vec Spoke Global). list.items) l.lists.items);
}
