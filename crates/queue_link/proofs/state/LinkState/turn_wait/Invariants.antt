use Rattle.std.proofs.Common.{◌≡◌, List, length}
use Rattle.rows.specs.declared.settings.Dwelling.{Dwelling}
use Rattle.traffic.specs.declared.world.Waiter.{Waiter}
use Rattle.queue_link.specs.{Turns.goes_on, Turns.queue_fate, declared.fates.Fate.TheVariants.Stays}
use Rattle.queue_link.proofs.state.LinkState.turn_wait.Given as goal

abbrev pub invariant-wait : goal.invariant-wait
invariant-wait l = record {
  leads : (dwell : Dwelling) (ws : List Waiter)
      → goes_on l.initial.self.numbers dwell ws l.second l.initial.self.lists l.initial.said.items
      ≡ goes_on l.self.numbers dwell ws l.second l.self.lists l.said.items;
  rests : queue_fate l.self.numbers l.second (length l.self.lists.buffer) l.self.lists.credit l.self.lists.queue ≡ Stays;
  same : l.self ≡ record l.initial.self { lists = l.self.lists };
}

abbrev pub decreases-wait : goal.decreases-wait
decreases-wait l = length l.self.lists.wait
