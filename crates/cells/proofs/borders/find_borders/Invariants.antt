use Rattle.cells.specs.Ports.{AreFound}
use Rattle.cells.proofs.borders.find_borders.Given as goal

abbrev pub invariant-loop-q : goal.invariant-loop-q
invariant-loop-q l = AreFound l.channels l.p l.q 0 l.borders.items
