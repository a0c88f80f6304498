use Rattle.std.proofs.Common.{◌≡◌, ◌≤◌, ℕ, length, Some}
use Rattle.std.specs.Prelude.{Contains}
use Rattle.walks.specs.Rounds.{label_at}
use Rattle.router.specs.{Frontiers.queued, Frontiers.GoesOn, declared.waiting.Entry.Entry}
use Rattle.router.proofs.frontier.next.Given as goal

abbrev pub invariant-loop-entry : goal.invariant-loop-entry
invariant-loop-entry l = record {
  labels : l.frontier.labels.items ≡ l.initial.frontier.labels.items;
  goes_on : GoesOn l.initial.frontier l.frontier;
  others : (other : Entry) → Contains l.frontier.queue other → Contains l.initial.frontier.queue other;
  kept : (at node : ℕ) → Contains l.initial.frontier.queue (queued at node) → label_at l.frontier.labels.items node
      ≡ Some at → Contains l.frontier.queue (queued at node);
  fewer : length l.frontier.queue ≤ length l.initial.frontier.queue;
}

abbrev pub decreases-loop-entry : goal.decreases-loop-entry
decreases-loop-entry l = length l.frontier.queue
