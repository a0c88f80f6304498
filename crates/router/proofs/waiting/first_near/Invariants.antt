use Rattle.std.proofs.Common.{◌≡◌, ◌<◌, ◌+◌, ◌%◌, ℕ, length, map, Vec, Global}
use Rattle.router.specs.{Rings.bucket_at, declared.waiting.Entry.Entry, declared.waiting.TheConstants.RING_SECONDS}
use Rattle.router.proofs.waiting.first_near.Given as goal

-- the buckets that were passed over have no entry
abbrev pub invariant-loop-passed : goal.invariant-loop-passed
invariant-loop-passed l = (j : ℕ) → j < l.passed
    → length (bucket_at (map (λ (bucket : Vec Entry Global). bucket.items) l.buckets) ((l.from + j) % RING_SECONDS)) ≡ 0
