use Rattle.cells.specs.Ports.{AreFound}
use Rattle.cells.proofs.borders.find_borders_from.Given as goal

abbrev pub invariant-loop-e : goal.invariant-loop-e
invariant-loop-e l = AreFound l.channels l.p l.q l.e l.borders.items
