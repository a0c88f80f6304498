use Rattle.std.{proofs.Common.◌≡◌, proofs.Common.length, specs.Prelude.None}
use Rattle.calendar.specs.Due.{AreIn}
use Rattle.part_nodes.specs.Turns.{always_in, node_due}
use Rattle.part_nodes.proofs.resting.node_due.Given as goal

abbrev pub invariant-loop-rest : goal.invariant-loop-rest
invariant-loop-rest l = record {
  so_far : node_due l.phase.day.now.town.now.settings.stuck l.phase.second (always_in l.phase.day.now.town.now.greens) l.space l.links l.due l.rest
      ≡ node_due l.phase.day.now.town.now.settings.stuck l.phase.second (always_in l.phase.day.now.town.now.greens) l.space l.links None l.slots;
  there : AreIn (length l.links) l.rest;
}

abbrev pub decreases-loop-rest : goal.decreases-loop-rest
decreases-loop-rest l = length l.rest
