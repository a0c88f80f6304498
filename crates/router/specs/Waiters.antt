-- Entries that wait: those of the ring and those of the heap.
use Rattle.std.specs.{BinaryHeap.heap_items, BinaryHeap.IsHeap, Prelude.List, Prelude.◌++◌, Prelude.map}
use Rattle.router.specs.Rings.{all_of, entry_cmp, later_entries, IsRing}
use Rattle.router.specs.declared.{waiting.Entry.Entry, waiting.Waiting.TheInside.Inside}

-- the entries of the buckets
abbrev pub buckets_of : Inside → List (List Entry)
buckets_of w = map (λ bucket. bucket.items) w.near.items

abbrev pub entries_of : Inside → List Entry
entries_of w = all_of (buckets_of w) ++ later_entries (heap_items w.far)

pub record IsWaiting (w : Inside) : Type 0 where
  pub ring : IsRing w.from (buckets_of w)
  pub heap : IsHeap entry_cmp (heap_items w.far)
