use Rattle.std.proofs.Common.{◌≡◌, List, length}
use Rattle.rows.specs.declared.settings.Dwelling.{Dwelling}
use Rattle.traffic.specs.declared.world.Waiter.{Waiter}
use Rattle.queue_link.specs.Turns.{goes_on}
use Rattle.queue_link.proofs.state.LinkState.turn_queue.Given as goal

abbrev pub invariant-queue : goal.invariant-queue
invariant-queue l = record {
  leads : (dwell : Dwelling) (ws : List Waiter)
      → goes_on l.initial.self.numbers dwell ws l.second l.initial.self.lists l.initial.said.items
      ≡ goes_on l.self.numbers dwell ws l.second l.self.lists l.said.items;
  same : l.self ≡ record l.initial.self { lists = l.self.lists };
}

abbrev pub decreases-queue : goal.decreases-queue
decreases-queue l = length l.self.lists.queue
