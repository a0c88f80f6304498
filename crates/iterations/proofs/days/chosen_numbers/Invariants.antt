use Rattle.std.proofs.Common.{◌≡◌, take}
use Rattle.iterations.specs.Acts.{chosen_numbers}
use Rattle.iterations.proofs.days.chosen_numbers.Given as goal

abbrev pub invariant-loop-memory : goal.invariant-loop-memory
invariant-loop-memory l = l.numbers.items ≡ chosen_numbers (take l.memory-index l.memories)
