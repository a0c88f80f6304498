use Rattle.std.proofs.Common.{◌≡◌, ℕ, List, [], length, ◌^◌, ◌<◌, rules, sym, subst, ◌∙◌}
use Rattle.events.specs.declared.event.Event.{Event}
use Rattle.travel_times.specs.{Observed.AreInOrder, Observed.AreOnLinks, Tallies.IsPiece}
use Rattle.travel_times.proofs.link_times.LinkTimes.of_events.Goals as goal

-- a whole day is a piece of itself
whole : (n links count : ℕ) (events : List Event) → AreInOrder events → AreOnLinks links events → length events < 2 ^ 64
    → n ≡ count
    → count ≡ links → IsPiece n [] events
whole n links count events order on_links few same are = record {
  order = order;
  on_links = subst (λ (m : ℕ). AreOnLinks m events) (sym (same ∙ are)) on_links;
  few = few;
}

pub take-requires : goal.take-requires
take-requires c = (
  [],
  c.new-known.ensures.known,
  whole _ _ _ c.args.events.now c.requires.order c.requires.links (search rules) c.new-known.ensures.links c.len.ensures,
)

pub seen-requires-clause-known : goal.seen-requires-clause-known
seen-requires-clause-known c = (
  c.args.events.now,
  c.in_ok-take.ensures.known [] c.new-known.ensures.known
      (whole _ _ _ c.args.events.now c.requires.order c.requires.links (search rules) c.new-known.ensures.links c.len.ensures),
)

pub returns-clause-times : goal.returns-clause-times
returns-clause-times c =
    c.in_ok-times.ensures.times c.args.events.now (c.in_ok-take.ensures.known [] c.new-known.ensures.known
    (whole _ _ _ c.args.events.now c.requires.order c.requires.links (search rules) c.new-known.ensures.links c.len.ensures))

pub returns-clause-arrivals : goal.returns-clause-arrivals
returns-clause-arrivals c =
    c.in_ok-times.ensures.arrivals c.args.events.now (c.in_ok-take.ensures.known [] c.new-known.ensures.known
    (whole _ _ _ c.args.events.now c.requires.order c.requires.links (search rules) c.new-known.ensures.links c.len.ensures))
