use Rattle.std.proofs.Common.{List, map, Vec, Global, sym, ◌∙◌}
use Rattle.std.proofs.lemmas.List.{length-map}
use Rattle.router.{proofs.Ringing.ring_none, specs.declared.waiting.Entry.Entry}
use Rattle.router.proofs.waiting.Waiting.clear.Goals as goal

abbrev items_of : Vec Entry Global → List Entry
items_of bucket = bucket.items

pub invariant_of-self : goal.invariant_of-self
invariant_of-self c = record {
  ring = ring_none c.args.second (map items_of c.empty.new.buckets.items)
      (length-map c.empty.new.buckets.items items_of ∙ c.empty.ensures.count ∙ sym (length-map c.self.inside.near.items items_of)
      ∙ c.self.invariant.ring.count)
      c.empty.ensures.none;
  heap = c.clear.ensures.heap_order;
}
