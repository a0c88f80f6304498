use Rattle.std.{proofs.lemmas.List.Sorted.IsPermutation-map, specs.BinaryHeap.heap_items, specs.declared.cmp.Reverse.Reverse}
use Rattle.router.{proofs.Ringing.heap_earliest, specs.declared.waiting.Entry.Entry}
use Rattle.router.proofs.waiting.take_far.Goals as goal

pub returns-in-Some-clause-some : goal.returns-in-Some-clause-some
returns-in-Some-clause-some c = record {
  others = IsPermutation-map (λ (r : Reverse Entry). r.0) (heap_items c.args.far.now) _ c.in-Some.ensures.permutation;
  earliest = heap_earliest c.in-Some.top (heap_items c.pop.new.self) (c.in-Some.ensures.below_top c.requires);
}
