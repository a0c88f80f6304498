-- Entries in a ring of buckets: one more, one less, and the earliest of them.
use Rattle.std.proofs.Common.{◌≡◌, ℕ, zero, suc, ◌+◌, ◌-◌, ◌%◌, ◌<◌, ◌≤◌, max, Bool, true, false, cond, List, [], ◌∷◌, ◌++◌, length, ◌⊎◌, inl, inr, refl, sym}
use Rattle.std.proofs.{Common.◌∙◌, Common.ap, Common.subst, Common.arith, lemmas.Bool.cases_eq, lemmas.Bool.cases_lt, lemmas.Bool.lt-ltb}
use Rattle.std.proofs.lemmas.List.{get_or-set_same, get_or-set_other, get_or_past, length-set}
use Rattle.std.proofs.lemmas.List.Elements.{All-nil, All-append, All-push, All-map, All-weaker, All-from_recursion}
use Rattle.std.proofs.lemmas.List.Sorted.{IsPermutation-to_front, IsPermutation-sym, IsPermutation-trans, IsPermutation-middle, IsPermutation-map}
use Rattle.std.proofs.lemmas.List.Sorted.{IsPermutation-append_left, IsPermutation-append_right, All-permutation}
use Rattle.std.specs.{BinaryHeap.IsUpperBound, List.Sorted.IsPermutation, Ordering.is_lt, Ordering.nat_cmp, Ordering.ordering_then}
use Rattle.std.specs.Prelude.{nat_lt, nat_eq, slice_index_or, slice_set, All, IfSome, IfNone, Option, None, Some}
use Rattle.std.specs.declared.cmp.{Ordering.TheVariants.Less, Ordering.TheVariants.Equal, Ordering.TheVariants.Greater, Reverse.Reverse}
use Rattle.router.specs.Rings.{all_of, bucket_at, entry_cmp, later_entries, IsIn, IsRing, IsFirst, IsOut, NoneBefore, IsTaken}
use Rattle.router.specs.declared.{waiting.Entry.Entry, waiting.TheConstants.RING_SECONDS}

abbrev pub Buckets : Type 0
Buckets = List (List Entry)

-- ALL ENTRIES
-- one more at the end of a bucket
pub all_put : (buckets : Buckets) (place : ℕ) (entry : Entry) → place < length buckets
    → IsPermutation (entry ∷ all_of buckets) (all_of (slice_set buckets place (bucket_at buckets place ++ entry ∷ [])))
all_put [] place entry within = absurd (omega arith)
all_put (bucket ∷ buckets) zero entry within =
    IsPermutation-append_left (all_of buckets) (entry ∷ bucket) (bucket ++ entry ∷ [])
    (IsPermutation-sym (bucket ++ entry ∷ []) (entry ∷ bucket) (IsPermutation-to_front bucket entry))
all_put (bucket ∷ buckets) (suc place) entry within =
    IsPermutation-trans (entry ∷ (bucket ++ all_of buckets)) (bucket ++ entry ∷ all_of buckets)
    (bucket ++ all_of (slice_set buckets place (bucket_at buckets place ++ entry ∷ [])))
    (IsPermutation-sym (bucket ++ entry ∷ all_of buckets) (entry ∷ (bucket ++ all_of buckets))
    (IsPermutation-middle bucket entry (all_of buckets)))
    (IsPermutation-append_right bucket (entry ∷ all_of buckets)
    (all_of (slice_set buckets place (bucket_at buckets place ++ entry ∷ []))) (all_put buckets place entry (omega arith)))

-- one less
pub all_out : (buckets : Buckets) (place : ℕ) (entry : Entry) (rest : List Entry) → place < length buckets
    → bucket_at buckets place ≡ rest ++ entry ∷ [] → IsPermutation (all_of buckets) (entry ∷ all_of (slice_set buckets place rest))
all_out [] place entry rest within is = absurd (omega arith)
all_out (bucket ∷ buckets) zero entry rest within is =
    subst (λ (b : List Entry). IsPermutation (b ++ all_of buckets) (entry ∷ (rest ++ all_of buckets))) (sym is)
    (IsPermutation-append_left (all_of buckets) (rest ++ entry ∷ []) (entry ∷ rest) (IsPermutation-to_front rest entry))
all_out (bucket ∷ buckets) (suc place) entry rest within is =
    IsPermutation-trans (bucket ++ all_of buckets) (bucket ++ entry ∷ all_of (slice_set buckets place rest))
    (entry ∷ (bucket ++ all_of (slice_set buckets place rest)))
    (IsPermutation-append_right bucket (all_of buckets) (entry ∷ all_of (slice_set buckets place rest))
    (all_out buckets place entry rest (omega arith) is))
    (IsPermutation-middle bucket entry (all_of (slice_set buckets place rest)))

-- what holds of each bucket holds of all, and the other way round
pub all_from : (P : Entry → Type 0) (buckets : Buckets) → ((place : ℕ) → All P (bucket_at buckets place)) → All P (all_of buckets)
all_from P [] each = All-nil P
all_from P (bucket ∷ buckets) each =
    All-append P bucket (all_of buckets) (each 0) (all_from P buckets (λ place. each (suc place)))

front_of : (P : Entry → Type 0) (xs ys : List Entry) → All P (xs ++ ys) → All P xs × All P ys
front_of P [] ys all = (All-nil P, all)
front_of P (x ∷ xs) ys all =
    let rest = front_of P xs ys (λ k d within. all (suc k) d (omega arith)) in
    (λ k d within. at k d within rest.0, rest.1)
  where
    at : (k : ℕ) (d : Entry) → k < length (x ∷ xs) → All P xs → P (slice_index_or (x ∷ xs) k d)
    at zero d within later = all 0 d (omega arith)
    at (suc k) d within later = later k d (omega arith)

pub all_each : (P : Entry → Type 0) (buckets : Buckets) → All P (all_of buckets) → (place : ℕ) → All P (bucket_at buckets place)
all_each P [] all place = λ k d within. absurd (let none = get_or_past {X = List Entry} [] place [] (omega arith) in
    let empty = ap (λ (b : List Entry). length b) none in omega arith)
all_each P (bucket ∷ buckets) all zero = (front_of P bucket (all_of buckets) all).0
all_each P (bucket ∷ buckets) all (suc place) = all_each P buckets (front_of P bucket (all_of buckets) all).1 place

-- where no bucket has an entry, there is none
pub all_none : (buckets : Buckets) → ((place : ℕ) → place < length buckets → length (bucket_at buckets place) ≡ 0) → all_of buckets ≡ []
all_none [] none = refl
all_none ([] ∷ buckets) none = all_none buckets (λ place within. none (suc place) (omega arith))
all_none ((entry ∷ bucket) ∷ buckets) none = absurd (let empty = none 0 (omega arith) in omega arith)

-- and the buckets of such a ring
pub all_empty : (buckets : Buckets) → all_of buckets ≡ [] → (place : ℕ) → length (bucket_at buckets place) ≡ 0
all_empty buckets none place =
    let P : Entry → Type 0 = λ e. ⊥ in
    let each = all_each P buckets (subst (λ (es : List Entry). All P es) (sym none) (All-nil P)) place in
    empty (bucket_at buckets place) each
  where
    empty : (es : List Entry) → All (λ (e : Entry). ⊥) es → length es ≡ 0
    empty [] none = refl
    empty (e ∷ es) none = absurd (none 0 e (omega arith))

pub all_push_none : (buckets : Buckets) → all_of buckets ≡ [] → all_of (buckets ++ [] ∷ []) ≡ []
all_push_none [] none = refl
all_push_none ([] ∷ buckets) none = all_push_none buckets none
all_push_none ((entry ∷ bucket) ∷ buckets) none = absurd (cc none)

-- RINGS
-- a ring with no entry may begin in any second
pub ring_none : (from : ℕ) (buckets : Buckets) → length buckets ≡ RING_SECONDS → all_of buckets ≡ [] → IsRing from buckets
ring_none from buckets count none = record {
  count = count;
  each = λ place k d within. absurd (let empty = all_empty buckets none place in omega arith);
}

-- one entry more
pub ring_put : (from : ℕ) (buckets : Buckets) (entry : Entry) → IsRing from buckets → from ≤ entry.second → entry.second < from + RING_SECONDS
    → IsRing from (slice_set buckets (entry.second % RING_SECONDS) (bucket_at buckets (entry.second % RING_SECONDS) ++ entry ∷ []))
ring_put from buckets entry ring begun ended = record {
  count = length-set buckets place (bucket_at buckets place ++ entry ∷ []) ∙ ring.count;
  each = λ n. elim (cases_eq n place) [
    | inl same ↦
        subst (λ (b : List Entry). All (IsIn from n) b)
        (sym (ap (λ (k : ℕ). bucket_at (slice_set buckets place (bucket_at buckets place ++ entry ∷ [])) k) same
        ∙ get_or-set_same buckets place (bucket_at buckets place ++ entry ∷ []) [] within))
        (All-push (IsIn from n) (bucket_at buckets place) entry
        (subst (λ (k : ℕ). All (IsIn from n) (bucket_at buckets k)) same (ring.each n))
        (record { place_is = sym same; begun = begun; ended = ended }))
    | inr other ↦
        subst (λ (b : List Entry). All (IsIn from n) b)
        (sym (get_or-set_other buckets place n (bucket_at buckets place ++ entry ∷ []) [] other)) (ring.each n)
  ];
}
  where
    place : ℕ
    place = entry.second % RING_SECONDS

    within : entry.second % RING_SECONDS < length buckets
    within = let count = ring.count in omega arith

-- one entry less
pub ring_out : (from place : ℕ) (old new : Buckets) (entry : Entry) → place < RING_SECONDS → IsRing from old → IsOut entry place old new
    → IsRing from new × IsIn from place entry
ring_out from place old new entry small ring out = (
  subst (IsRing from) (sym out.is) (record {
    count = length-set old place out.rest ∙ ring.count;
    each = λ n. elim (cases_eq n place) [
      | inl same ↦
          subst (λ (b : List Entry). All (IsIn from n) b)
          (sym (ap (λ (k : ℕ). bucket_at (slice_set old place out.rest) k) same ∙ get_or-set_same old place out.rest [] within))
          (front_of (IsIn from n) out.rest (entry ∷ [])
          (subst (λ (b : List Entry). All (IsIn from n) b) (ap (bucket_at old) same ∙ out.was) (ring.each n))).0
      | inr other ↦
          subst (λ (b : List Entry). All (IsIn from n) b) (sym (get_or-set_other old place n out.rest [] other)) (ring.each n)
    ];
  }),
  (front_of (IsIn from place) out.rest (entry ∷ [])
      (subst (λ (b : List Entry). All (IsIn from place) b) out.was (ring.each place))).1 0 entry (omega arith),
)
  where
    within : place < length old
    within = let count = ring.count in omega arith

-- where no entry comes before a second, the ring may begin there
pub ring_later : (from second : ℕ) (buckets : Buckets) → IsRing from buckets → from ≤ second → NoneBefore second (all_of buckets)
    → IsRing second buckets
ring_later from second buckets ring after none = record {
  count = ring.count;
  each = λ place k d within.
      let own = ring.each place k d within in
      let late = all_each (λ (e : Entry). second ≤ e.second) buckets none place k d within in
      record { place_is = own.place_is; begun = late; ended = let h = own.ended in omega arith };
}

-- what is in a bucket that was not passed over is no earlier than so many seconds
passed_by : (from passed n : ℕ) (buckets : Buckets) (entry : Entry) → IsIn from n entry → 0 < length (bucket_at buckets n)
    → ((j : ℕ) → j < passed → length (bucket_at buckets ((from + j) % RING_SECONDS)) ≡ 0) → from + passed ≤ entry.second
passed_by from passed n buckets entry own some empty =
    elim (cases_lt entry.second (from + passed)) [
      | inl before ↦
          let begun = own.begun in
          let none = empty (entry.second - from) (omega arith) in
          let same : from + (entry.second - from) ≡ entry.second = omega arith in
          let here : (from + (entry.second - from)) % RING_SECONDS ≡ n = ap (λ (s : ℕ). s % RING_SECONDS) same ∙ own.place_is in
          let empty_here = ap (λ (p : ℕ). length (bucket_at buckets p)) here in
          absurd (omega arith)
      | inr fine ↦ fine
    ]

-- where the first buckets have no entry, none comes before their seconds are over
pub ring_passed : (from passed : ℕ) (buckets : Buckets) → IsRing from buckets
    → ((j : ℕ) → j < passed → length (bucket_at buckets ((from + j) % RING_SECONDS)) ≡ 0) → NoneBefore (from + passed) (all_of buckets)
ring_passed from passed buckets ring empty =
    all_from (λ (e : Entry). from + passed ≤ e.second) buckets (λ n k d within.
    passed_by from passed n buckets (slice_index_or (bucket_at buckets n) k d) (ring.each n k d within) (omega arith) empty)

-- where none comes before the seconds of all buckets are over, there is none
pub ring_past : (from : ℕ) (buckets : Buckets) → IsRing from buckets → NoneBefore (from + RING_SECONDS) (all_of buckets) → all_of buckets ≡ []
ring_past from buckets ring late = all_none buckets (λ place within.
    none (bucket_at buckets place) (ring.each place) (all_each (λ (e : Entry). from + RING_SECONDS ≤ e.second) buckets late place))
  where
    none : {place : ℕ} (es : List Entry) → All (IsIn from place) es → All (λ (e : Entry). from + RING_SECONDS ≤ e.second) es → length es ≡ 0
    none [] own late = refl
    none (e ∷ es) own late = absurd (let ended = (own 0 e (omega arith)).ended in let after = late 0 e (omega arith) in omega arith)

-- the entry of the first bucket that has one is the earliest
pub ring_first : (from second place passed : ℕ) (buckets : Buckets) → IsRing from buckets → place ≡ (from + passed) % RING_SECONDS
    → passed < RING_SECONDS
    → ((j : ℕ) → j < passed → length (bucket_at buckets ((from + j) % RING_SECONDS)) ≡ 0)
    → (k : ℕ) × (k < length (bucket_at buckets place)) × ((d : Entry) → second ≡ (slice_index_or (bucket_at buckets place) k d).second)
    → IsFirst from second buckets × (second ≡ from + passed)
ring_first from second place passed buckets ring at few empty found = by_entry (slice_index_or (bucket_at buckets place) found.0 filler)
    (ring.each place found.0 filler found.1) (found.2 filler)
  where
    filler : Entry
    filler = record { second = 0; node = 0 }

    by_entry : (e : Entry) → IsIn from place e → second ≡ e.second → IsFirst from second buckets × (second ≡ from + passed)
    by_entry e own is =
        let place_is = own.place_is in
        let begun = own.begun in
        let ended = own.ended in
        let here : second ≡ from + passed = omega arith in
        let there : second % RING_SECONDS ≡ place = omega arith in (
          record {
            there = subst (λ (p : ℕ). 0 < length (bucket_at buckets p)) (sym there) (let h = found.1 in omega arith);
            begun = omega arith;
            ended = omega arith;
            earliest = subst (λ (s : ℕ). NoneBefore s (all_of buckets)) (sym here) (ring_passed from passed buckets ring empty);
          },
          here,
        )

-- one bucket more is empty
pub emptied : (old new : Buckets) (place : ℕ) → new ≡ slice_set old place [] → place < length old
    → ((p : ℕ) → p < place → length (bucket_at old p) ≡ 0) → (p : ℕ) → p < place + 1 → length (bucket_at new p) ≡ 0
emptied old new place is within before p less =
    subst (λ (buckets : Buckets). length (bucket_at buckets p) ≡ 0) (sym is) (elim (cases_eq p place) [
      | inl same ↦ ap (λ (b : List Entry). length b) (ap (bucket_at (slice_set old place [])) same ∙ get_or-set_same old place [] [] within)
      | inr other ↦ ap (λ (b : List Entry). length b) (get_or-set_other old place p [] [] other) ∙ before p (omega arith)
    ])

-- WHO WAITS
not_less : (x y : Reverse Entry) → is_lt (entry_cmp x y) ≡ false → x.0.second ≤ y.0.second
not_less x y e = by_order (cases_lt y.0.second x.0.second)
  where
    by_order : (y.0.second < x.0.second) ⊎ (x.0.second ≤ y.0.second) → x.0.second ≤ y.0.second
    by_order (inr fine) = fine
    by_order (inl less) =
        let first : nat_lt y.0.second x.0.second ≡ true = lt-ltb y.0.second x.0.second less in
        let whole : is_lt (ordering_then (cond (nat_lt y.0.second x.0.second) Less (cond (nat_eq y.0.second x.0.second) Equal Greater))
        (nat_cmp y.0.node x.0.node)) ≡ true =
        ap (λ (b : Bool). is_lt (ordering_then (cond b Less (cond (nat_eq y.0.second x.0.second) Equal Greater))
        (nat_cmp y.0.node x.0.node))) first in
        absurd (cc (e, whole))

-- no entry of a heap comes before its top
pub heap_earliest : (x : Reverse Entry) (entries : List (Reverse Entry)) → IsUpperBound entry_cmp x entries
    → NoneBefore x.0.second (later_entries entries)
heap_earliest x entries bound =
    All-map (λ (e : Entry). x.0.second ≤ e.second) (λ (r : Reverse Entry). r.0) entries
    (All-weaker (λ (y : Reverse Entry). is_lt (entry_cmp x y) ≡ false) (λ (y : Reverse Entry). x.0.second ≤ y.0.second) (not_less x) entries
    (All-from_recursion (λ (y : Reverse Entry). is_lt (entry_cmp x y) ≡ false) entries bound))

-- the earliest entry is taken from the heap, before which none of the ring comes
pub taken_far : (entry : Entry) (near old new : List Entry) → IsTaken entry old new → NoneBefore entry.second near
    → IsTaken entry (near ++ old) (near ++ new)
taken_far entry near old new taken none = record {
  others = IsPermutation-trans (near ++ old) (near ++ entry ∷ new) (entry ∷ (near ++ new))
      (IsPermutation-append_right near old (entry ∷ new) taken.others) (IsPermutation-middle near entry new);
  earliest = All-append (λ (e : Entry). entry.second ≤ e.second) near new none taken.earliest;
}

-- it is taken from the ring, before which none of the heap comes
pub taken_near : (from second : ℕ) (entry : Entry) (old new : Buckets) (far : List Entry) → IsRing from old → IsFirst from second old
    → IsOut entry (second % RING_SECONDS) old new → NoneBefore second far
    → IsTaken entry (all_of old ++ far) (all_of new ++ far) × IsRing second new
taken_near from second entry old new far ring first out none =
    let small : second % RING_SECONDS < RING_SECONDS = omega arith in
    let less = ring_out from (second % RING_SECONDS) old new entry small ring out in
    let own : IsIn from (second % RING_SECONDS) entry = less.1 in
    let at : entry.second ≡ second = let p = own.place_is in let b = own.begun in let e = own.ended in
    let fb = first.begun in let fe = first.ended in omega arith in
    let count = ring.count in
    let moved : IsPermutation (all_of old) (entry ∷ all_of new) =
    subst (λ (bs : Buckets). IsPermutation (all_of old) (entry ∷ all_of bs)) (sym out.is)
    (all_out old (second % RING_SECONDS) entry out.rest (omega arith) out.was) in
    let left : NoneBefore second (all_of new) =
    (front_of (λ (e : Entry). second ≤ e.second) (entry ∷ []) (all_of new)
    (All-permutation (λ (e : Entry). second ≤ e.second) (all_of old) (entry ∷ all_of new) moved first.earliest)).1 in
    let none_here : NoneBefore entry.second (all_of new ++ far) =
    subst (λ (s : ℕ). NoneBefore s (all_of new ++ far)) (sym at)
    (All-append (λ (e : Entry). second ≤ e.second) (all_of new) far left none) in (
      record {
        others = IsPermutation-append_left far (all_of old) (entry ∷ all_of new) moved;
        earliest = none_here;
      },
      ring_later from second new less.0 first.begun left,
    )

-- what is taken from the bucket of the earliest second
pub near_by : (from second : ℕ) (taken : Option Entry) (old new : Buckets) (far : List Entry) → IsRing from old → IsFirst from second old
    → IfSome taken (λ entry. IsOut entry (second % RING_SECONDS) old new)
    → IfNone taken (length (bucket_at old (second % RING_SECONDS)) ≡ 0) → NoneBefore second far
    → IfSome taken (λ entry. IsTaken entry (all_of old ++ far) (all_of new ++ far)) × IsRing second new
near_by from second None old new far ring first out none late = absurd (let there = first.there in omega arith)
near_by from second (Some entry) old new far ring first out none late = taken_near from second entry old new far ring first out late

-- no entry of the ring comes before the top of the heap, where so many buckets were passed over
pub far_rest : (from count : ℕ) (entry : Entry) (near : Buckets) (far : List (Reverse Entry)) → IsRing from near
    → NoneBefore (from + count) (all_of near)
    → (count ≡ RING_SECONDS) ⊎ ((top : Reverse Entry) × (slice_index_or far 0 top ≡ top) × (top.0.second ≤ from + count))
    → ((d : Reverse Entry) → entry ≡ (slice_index_or far 0 d).0) → NoneBefore (max from entry.second) (all_of near)
far_rest from count entry near far ring late (inl whole) top =
    subst (λ (es : List Entry). NoneBefore (max from entry.second) es)
    (sym (ring_past from near ring (subst (λ (n : ℕ). NoneBefore (from + n) (all_of near)) whole late)))
    (All-nil (λ (e : Entry). max from entry.second ≤ e.second))
far_rest from count entry near far ring late (inr found) top =
    let is : entry.second ≡ found.0.0.second = ap (λ (e : Entry). e.second) (top found.0) ∙ ap (λ (r : Reverse Entry). r.0.second) found.1 in
    let below = found.2 in
    All-weaker (λ (e : Entry). from + count ≤ e.second) (λ (e : Entry). max from entry.second ≤ e.second) (λ e h. omega arith) (all_of near)
    late

-- one entry more, in the ring or in the heap
pub put_near : (from : ℕ) (old new : Buckets) (far all : List Entry) (entry : Entry) → IsRing from old
    → new ≡ slice_set old (entry.second % RING_SECONDS) (bucket_at old (entry.second % RING_SECONDS) ++ entry ∷ [])
    → all_of old ++ far ≡ all → IsPermutation (entry ∷ all) (all_of new ++ far)
put_near from old new far all entry ring put view =
    let count = ring.count in
    let more = all_put old (entry.second % RING_SECONDS) entry (omega arith) in
    subst (λ (es : List Entry). IsPermutation (entry ∷ es) (all_of new ++ far)) view
    (subst (λ (bs : Buckets). IsPermutation (entry ∷ (all_of old ++ far)) (all_of bs ++ far)) (sym put)
    (IsPermutation-append_left far (entry ∷ all_of old)
    (all_of (slice_set old (entry.second % RING_SECONDS) (bucket_at old (entry.second % RING_SECONDS) ++ entry ∷ []))) more))

pub put_far : (near : List Entry) (old new : List (Reverse Entry)) (all : List Entry) (entry : Entry)
    → IsPermutation ((record { 0 = entry }) ∷ old) new → near ++ later_entries old ≡ all
    → IsPermutation (entry ∷ all) (near ++ later_entries new)
put_far near old new all entry pushed view =
    subst (λ (es : List Entry). IsPermutation (entry ∷ es) (near ++ later_entries new)) view
    (IsPermutation-trans (entry ∷ (near ++ later_entries old)) (near ++ entry ∷ later_entries old) (near ++ later_entries new)
    (IsPermutation-sym (near ++ entry ∷ later_entries old) (entry ∷ (near ++ later_entries old))
    (IsPermutation-middle near entry (later_entries old)))
    (IsPermutation-append_right near (entry ∷ later_entries old) (later_entries new)
    (IsPermutation-map (λ (r : Reverse Entry). r.0) ((record { 0 = entry }) ∷ old) new pushed)))
