use Rattle.std.proofs.Common.{◌≡◌, ◌++◌, length}
use Rattle.town.specs.Views.{setup}
use Rattle.calendar.specs.Due.{AreIn}
use Rattle.part_nodes.specs.Turns.{lights_of}
use Rattle.part_nodes.proofs.node_turns.lights.Given as goal

abbrev pub invariant-loop-rest : goal.invariant-loop-rest
invariant-loop-rest l = record {
  so_far : l.greens.items ++ lights_of (setup l.phase.day.now) l.phase.second l.links l.rest ≡ lights_of (setup l.phase.day.now) l.phase.second l.links l.slots;
  there : AreIn (length l.links) l.rest;
}

abbrev pub decreases-loop-rest : goal.decreases-loop-rest
decreases-loop-rest l = length l.rest
