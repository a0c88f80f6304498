use Rattle.std.proofs.Common.{arith, ◌≡◌, ◌++◌, ◌≤◌, ◌+◌, ◌⊎◌, max, ℕ, List, map, Vec, Global, sym, ap, subst, ◌∙◌}
use Rattle.std.{proofs.lemmas.List.Elements.All-weaker, specs.BinaryHeap.heap_items, specs.Prelude.IfSome, specs.Prelude.slice_index_or}
use Rattle.std.specs.declared.cmp.Reverse.{Reverse}
use Rattle.router.proofs.Ringing.{Buckets, ring_later, ring_past, near_by, far_rest, taken_far}
use Rattle.router.specs.{Rings.all_of, Rings.later_entries, Rings.IsRing, Rings.IsFirst, Rings.IsTaken, Rings.NoneBefore, Waiters.buckets_of}
use Rattle.router.specs.declared.{waiting.Entry.Entry, waiting.TheConstants.RING_SECONDS}
use Rattle.router.proofs.waiting.Waiting.pop.Goals as goal

abbrev buckets_in : List (Vec Entry Global) → Buckets
buckets_in buckets = map (λ (bucket : Vec Entry Global). bucket.items) buckets

pub invariant_of-self : goal.invariant_of-self
invariant_of-self c =
    let first = subst (λ (buckets : List (Vec Entry Global)). IsFirst c.self.inside.from c.in-Some.second (buckets_in buckets))
    c.deref.ensures.value c.in-Some.ensures.some in
    record {
      ring = (near_by c.self.inside.from c.in-Some.second c.take_near.result (buckets_of c.self.inside)
          (buckets_in c.take_near.new.buckets.items) (later_entries (heap_items c.self.inside.far)) c.self.invariant.ring first
          c.take_near.ensures.some c.take_near.ensures.none
          (c.near_count-count.ensures.later c.in-Some.second first.begun c.in-Some.ensures.before)).1;
      heap = c.self.invariant.heap;
    }

-- what is taken from the heap, where so many buckets were passed over
module _ (from count : ℕ) (entry : Entry) (near : Buckets) (old new : List (Reverse Entry)) (ring : IsRing from near)
    (late : NoneBefore (from + count) (all_of near))
    (top : (count ≡ RING_SECONDS) ⊎ ((top : Reverse Entry) × (slice_index_or old 0 top ≡ top) × (top.0.second ≤ from + count)))
    (first : (d : Reverse Entry) → entry ≡ (slice_index_or old 0 d).0) where
  ring_there : IsRing (max from entry.second) near
  ring_there = ring_later from (max from entry.second) near ring (omega arith) (far_rest from count entry near old ring late top first)

  taken_there : IsTaken entry (later_entries old) (later_entries new)
      → IsTaken entry (all_of near ++ later_entries old) (all_of near ++ later_entries new)
  taken_there taken =
      taken_far entry (all_of near) (later_entries old) (later_entries new) taken
      (All-weaker (λ (e : Entry). max from entry.second ≤ e.second) (λ (e : Entry). entry.second ≤ e.second) (λ e h. omega arith)
      (all_of near) (far_rest from count entry near old ring late top first))

pub returns-in-Some-clause-some : goal.returns-in-Some-clause-some
returns-in-Some-clause-some c =
    let first = subst (λ (buckets : List (Vec Entry Global)). IsFirst c.self.inside.from c.in-Some.second (buckets_in buckets))
    c.deref.ensures.value c.in-Some.ensures.some in
    subst (λ (all : List Entry). IfSome c.take_near.result (λ entry. IsTaken entry all
    (all_of (buckets_in c.take_near.new.buckets.items) ++ later_entries (heap_items c.self.inside.far)))) c.self.view_is
    (near_by c.self.inside.from c.in-Some.second c.take_near.result (buckets_of c.self.inside)
    (buckets_in c.take_near.new.buckets.items) (later_entries (heap_items c.self.inside.far)) c.self.invariant.ring first
    c.take_near.ensures.some c.take_near.ensures.none
    (c.near_count-count.ensures.later c.in-Some.second first.begun c.in-Some.ensures.before)).0

-- of those in the ring none comes before the buckets that were passed over
late_there : (from count : ℕ) (buckets near : List (Vec Entry Global)) → buckets ≡ near → NoneBefore (from + count) (all_of (buckets_in buckets))
    → NoneBefore (from + count) (all_of (buckets_in near))
late_there from count buckets near same late =
    subst (λ (bs : List (Vec Entry Global)). NoneBefore (from + count) (all_of (buckets_in bs))) same late

pub returns-in_default-take_far-clause-none : goal.returns-in_default-take_far-clause-none
returns-in_default-take_far-clause-none c =
    let none = c.in_default-take_far.ensures.none in
    let late = late_there c.self.inside.from c.near_count-count.result c.deref.result.now c.self.inside.near.items c.deref.ensures.value
    c.in_default.ensures.none in
    let near = ring_past c.self.inside.from (buckets_of c.self.inside) c.self.invariant.ring
    (subst (λ (n : ℕ). NoneBefore (c.self.inside.from + n) (all_of (buckets_of c.self.inside))) (c.near_count-count.ensures.whole none.0) late) in (
      sym c.self.view_is ∙ ap (λ (es : List Entry). es ++ later_entries (heap_items c.self.inside.far)) near
          ∙ ap (λ (es : List (Reverse Entry)). later_entries es) none.0,
      ap (λ (es : List Entry). es ++ later_entries (heap_items c.take_far.new.far)) near
          ∙ ap (λ (es : List (Reverse Entry)). later_entries es) none.1,
    )

pub invariant_of-self-2 : goal.invariant_of-self-2
invariant_of-self-2 c = record {
  ring = subst (λ (s : ℕ). IsRing s (buckets_of c.self.inside)) (sym c.max-self-inside.ensures)
      (ring_there c.self.inside.from c.near_count-count.result c.in-Some-take_far.entry (buckets_of c.self.inside)
      (heap_items c.self.inside.far) (heap_items c.take_far.new.far) c.self.invariant.ring
      (late_there c.self.inside.from c.near_count-count.result c.deref.result.now c.self.inside.near.items c.deref.ensures.value
      c.in_default.ensures.none)
      c.near_count-count.ensures.top c.in-Some-take_far.ensures.top);
  heap = c.take_far.ensures.heap;
}

pub returns-clause-some : goal.returns-clause-some
returns-clause-some c =
    subst (λ (all : List Entry). IsTaken c.in-Some-take_far.entry all
    (all_of (buckets_of c.self.inside) ++ later_entries (heap_items c.take_far.new.far))) c.self.view_is
    (taken_there c.self.inside.from c.near_count-count.result c.in-Some-take_far.entry (buckets_of c.self.inside)
    (heap_items c.self.inside.far) (heap_items c.take_far.new.far) c.self.invariant.ring
    (late_there c.self.inside.from c.near_count-count.result c.deref.result.now c.self.inside.near.items c.deref.ensures.value
    c.in_default.ensures.none)
    c.near_count-count.ensures.top c.in-Some-take_far.ensures.top c.in-Some-take_far.ensures.some)
