use Rattle.std.proofs.Common.{◌≡◌, length, vec_len}
use Rattle.iterations.specs.Days.{scored}
use Rattle.iterations.proofs.days.scored.Given as goal

-- the memories so far have their scores
abbrev pub invariant-loop-memory : goal.invariant-loop-memory
invariant-loop-memory l = record {
  marked : l.after.items ≡ scored l.yielded l.scores;
  count : vec_len l.after ≡ length l.yielded;
}
