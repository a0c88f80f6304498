use Rattle.std.{proofs.Common.ℕ, proofs.Common.◌<◌, specs.Prelude.slice_index_or, specs.Prelude.IfSome}
use Rattle.events.specs.declared.event.Event.{Event}
use Rattle.travel_times.proofs.asked.are_on_links.Given as goal

abbrev pub invariant-loop-event : goal.invariant-loop-event
invariant-loop-event l = (k : ℕ) (d : Event) → k < l.event-index → IfSome (slice_index_or l.events k d).link (λ link. link < l.links)
