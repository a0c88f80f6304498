use Rattle.std.proofs.Common.{map, Vec, Global}
use Rattle.std.specs.BinaryHeap.{heap_items}
use Rattle.router.{proofs.Ringing.put_near, proofs.Ringing.put_far, specs.Rings.all_of, specs.Rings.later_entries, specs.Waiters.buckets_of}
use Rattle.router.specs.declared.waiting.Entry.{Entry}
use Rattle.router.proofs.waiting.Waiting.push.Goals as goal

pub returns-then-entry-self-lt-RING_SECONDS : goal.returns-then-entry-self-lt-RING_SECONDS
returns-then-entry-self-lt-RING_SECONDS c =
    put_near c.self.inside.from (buckets_of c.self.inside) (map (λ (bucket : Vec Entry Global). bucket.items) c.put.new.buckets.items)
    (later_entries (heap_items c.self.inside.far)) c.args.self.now c.args.entry c.self.invariant.ring c.in_ok-put.ensures.ok c.self.view_is

pub returns : goal.returns
returns c =
    put_far (all_of (buckets_of c.self.inside)) (heap_items c.self.inside.far) (heap_items c.push.new.self) c.args.self.now c.args.entry
    c.in_ok-push.ensures.permutation c.self.view_is
