-- A link's fields as contracts see them, and what they keep.
use Rattle.std.specs.Prelude.{◌≡◌, ◌≤◌}
use Rattle.limits.specs.declared.TheConstants.{LAST_SECOND}
use Rattle.queue_link.specs.{Links.LinkView, Numbers.AreNumbers, Waking.bay_due, declared.state.LinkState.TheInside.Inside}

abbrev pub link_view : Inside → LinkView
link_view s =
    record {
      numbers = s.numbers;
      lists = record { queue = s.queue.items; buffer = s.buffer.items; wait = s.wait.items; bay = s.bay.items; credit = s.credit };
      raised = s.raised;
    }

abbrev pub link_invariant : Inside → Type 0
link_invariant s = AreNumbers s.numbers × (s.raised ≤ LAST_SECOND) × (s.bay_due ≡ bay_due s.bay.items)
