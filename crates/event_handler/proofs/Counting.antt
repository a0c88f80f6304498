-- Events that are counted, and a piece more.
use Rattle.std.proofs.Common.{◌≡◌, ◌+◌, List, ◌++◌, cond, length, length-append, arith}
use Rattle.std.proofs.lemmas.List.Sums.{sum_by-append}
use Rattle.events.specs.declared.event.Event.{Event}
use Rattle.event_handler.specs.{Counts.is_stuck, Counts.stuck_count, Counts.AreCounted, declared.counts.EventCounts.EventCounts}

pub counted_more : (before after : EventCounts) (taken events : List Event) → AreCounted before taken
    → after.events ≡ before.events + length events → after.stuck ≡ before.stuck + stuck_count events
    → AreCounted after (taken ++ events)
counted_more before after taken events h e f = record {
  all = let n = h.all in let m = length-append taken events in omega (arith, e);
  stuck =
      let n = h.stuck in
      let m = sum_by-append (λ (event : Event). cond (is_stuck event.word) 1 0) taken events in
      omega (arith, f);
}
