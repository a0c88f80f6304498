-- Entries in a ring of buckets, one for each second.
use Rattle.std.specs.{List.Sorted.IsPermutation, Ordering.nat_cmp, Ordering.ordering_then, Prelude.◌≡◌, Prelude.ℕ, Prelude.◌+◌, Prelude.◌%◌, Prelude.◌<◌}
use Rattle.std.specs.Prelude.{◌≤◌, List, [], ◌∷◌, ◌++◌, length, map, slice_index_or, slice_set, All}
use Rattle.std.specs.declared.cmp.{Ordering.Ordering, Reverse.Reverse}
use Rattle.router.specs.declared.{waiting.Entry.Entry, waiting.TheConstants.RING_SECONDS}

-- the order of the heap: the earlier second is the greater entry
abbrev pub entry_cmp : Reverse Entry → Reverse Entry → Ordering
entry_cmp a b = ordering_then (nat_cmp b.0.second a.0.second) (nat_cmp b.0.node a.0.node)

-- the entries of all buckets, one bucket behind the other
abbrev pub all_of : List (List Entry) → List Entry
all_of [] = []
all_of (bucket ∷ buckets) = bucket ++ all_of buckets

-- the entries of the heap
abbrev pub later_entries : List (Reverse Entry) → List Entry
later_entries entries = map (λ (r : Reverse Entry). r.0) entries

-- the bucket in this place
abbrev pub bucket_at : List (List Entry) → ℕ → List Entry
bucket_at buckets place = slice_index_or buckets place []

-- the entry is of a second of the ring that begins with this second, and is in its place
pub record IsIn (from place : ℕ) (entry : Entry) : Type 0 where
  pub place_is : entry.second % RING_SECONDS ≡ place
  pub begun : from ≤ entry.second
  pub ended : entry.second < from + RING_SECONDS

-- each entry is in the bucket of its second, and there is one bucket for each second of the ring
pub record IsRing (from : ℕ) (buckets : List (List Entry)) : Type 0 where
  pub count : length buckets ≡ RING_SECONDS
  pub each : (place : ℕ) → All (IsIn from place) (bucket_at buckets place)

-- no entry comes before this second
abbrev pub NoneBefore : ℕ → List Entry → Type 0
NoneBefore second entries = All (λ entry. second ≤ entry.second) entries

-- this is the earliest second of an entry in the ring
pub record IsFirst (from second : ℕ) (buckets : List (List Entry)) : Type 0 where
  pub there : 0 < length (bucket_at buckets (second % RING_SECONDS))
  pub begun : from ≤ second
  pub ended : second < from + RING_SECONDS
  pub earliest : NoneBefore second (all_of buckets)

-- the last entry of the bucket in this place is out
pub record IsOut (entry : Entry) (place : ℕ) (old new : List (List Entry)) : Type 0 where
  pub rest : List Entry
  pub was : bucket_at old place ≡ rest ++ entry ∷ []
  pub is : new ≡ slice_set old place rest

-- the entry was one of the old ones, before which no other came, and the others are left
pub record IsTaken (entry : Entry) (old new : List Entry) : Type 0 where
  pub others : IsPermutation old (entry ∷ new)
  pub earliest : NoneBefore entry.second new
