use Rattle.std.proofs.Common.{◌≡◌, ℕ, ◌<◌, [], length, get_or}
use Rattle.step_core.proofs.starting.all_borders.Given as goal

abbrev pub invariant-loop-number : goal.invariant-loop-number
invariant-loop-number g l = record {
  count : length l.lists.items ≡ l.number;
  each : (p : ℕ) → p < l.number → get_or l.lists.items p [] ≡ g.T.Part.borders l.run p;
}
