use Rattle.std.proofs.Common.{◌≡◌, ◌≤◌, sum, take}
use Rattle.draws.proofs.choices.pick.Given as goal

abbrev pub invariant-loop-place : goal.invariant-loop-place
invariant-loop-place l = record { summed : l.running ≡ sum (take l.place l.weights); within : l.running ≤ l.target }
