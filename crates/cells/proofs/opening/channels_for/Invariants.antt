use Rattle.std.proofs.Common.{◌≡◌, take}
use Rattle.cells.specs.Pairs.{channels_of}
use Rattle.cells.proofs.opening.channels_for.Given as goal

abbrev pub invariant-loop-i : goal.invariant-loop-i
invariant-loop-i l = l.channels.items ≡ channels_of (take l.i l.pairs)
