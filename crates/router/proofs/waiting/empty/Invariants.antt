use Rattle.std.proofs.Common.{◌≡◌, ◌<◌, ℕ, length, map, Vec, Global}
use Rattle.router.specs.{Rings.bucket_at, declared.waiting.Entry.Entry}
use Rattle.router.proofs.waiting.empty.Given as goal

abbrev pub invariant-loop-place : goal.invariant-loop-place
invariant-loop-place l = record {
  count : length l.buckets.items ≡ length l.initial.buckets.items;
  none : (p : ℕ) → p < l.place → length (bucket_at (map (λ (bucket : Vec Entry Global). bucket.items) l.buckets.items) p) ≡ 0;
}
