-- The lists of a link as its turn sees them.
use Rattle.std.specs.Prelude.{ℕ}
use Rattle.traffic.specs.Links.{LinkState}
use Rattle.plain_turns.specs.declared.lists.LinkVehicles.{LinkVehicles}

abbrev pub link_state_of : LinkVehicles → ℕ → LinkState
link_state_of lists credit = record { queue = lists.queue.items; buffer = lists.buffer.items; wait = lists.wait.items; bay = lists.bay.items; credit = credit }
