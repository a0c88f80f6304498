use Rattle.std.{proofs.Common.◌≡◌, proofs.Common.ℕ, proofs.Common.◌+◌, proofs.Common.◌<◌, proofs.Common.◌≤◌, specs.Prelude.slice_index_or}
use Rattle.events.specs.declared.event.Event.{Event}
use Rattle.travel_times.proofs.asked.are_in_order.Given as goal

abbrev pub invariant-loop-event : goal.invariant-loop-event
invariant-loop-event l = record {
  below : (k : ℕ) (d : Event) → k < l.event-index → (slice_index_or l.events k d).key.second ≤ l.last;
  order : (i j : ℕ) (d : Event) → i < j → j < l.event-index →
      (slice_index_or l.events i d).key.second ≤ (slice_index_or l.events j d).key.second;
  last : (k : ℕ) (d : Event) → k + 1 ≡ l.event-index → l.last ≡ (slice_index_or l.events k d).key.second;
  first : l.event-index ≡ 0 → l.last ≡ 0;
}
