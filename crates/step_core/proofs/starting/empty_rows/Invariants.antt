use Rattle.std.proofs.Common.{◌≡◌, ℕ, length, get_or}
use Rattle.step_core.proofs.starting.empty_rows.Given as goal

abbrev pub invariant-loop-place : goal.invariant-loop-place
invariant-loop-place g l = record {
  count : length l.parcels.items ≡ l._place;
  none : (i : ℕ) → get_or l.parcels.items i g.T.Part.nothing ≡ g.T.Part.nothing;
}
