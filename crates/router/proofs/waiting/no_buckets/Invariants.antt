use Rattle.std.proofs.Common.{◌≡◌, [], length, map, Vec, Global}
use Rattle.router.specs.{Rings.all_of, declared.waiting.Entry.Entry}
use Rattle.router.proofs.waiting.no_buckets.Given as goal

abbrev pub invariant-loop : goal.invariant-loop
invariant-loop l = record {
  count : length l.buckets.items ≡ l.counter;
  none : all_of (map (λ (bucket : Vec Entry Global). bucket.items) l.buckets.items) ≡ [];
}
