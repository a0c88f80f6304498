use Rattle.std.proofs.Common.{map, Vec, Global, ◌∙◌}
use Rattle.std.proofs.lemmas.List.{length-map}
use Rattle.router.{proofs.Ringing.ring_none, specs.declared.waiting.Entry.Entry}
use Rattle.router.proofs.waiting.Waiting.new.Goals as goal

pub invariant_of-result : goal.invariant_of-result
invariant_of-result c = record {
  ring = ring_none c.args.second (map (λ (bucket : Vec Entry Global). bucket.items) c.in_ok-near.near.items)
      (length-map c.in_ok-near.near.items (λ (bucket : Vec Entry Global). bucket.items) ∙ c.in_ok-near.ensures.count)
      c.in_ok-near.ensures.none;
  heap = c.new.ensures.heap_order;
}
