use Rattle.std.proofs.Common.{◌≡◌, length}
use Rattle.town.specs.Views.{setup}
use Rattle.part_lines.specs.Coming.{joined_lines, CanAllJoin}
use Rattle.part_lines.proofs.lines.join_lines.Given as goal

abbrev pub invariant-loop-rest : goal.invariant-loop-rest
invariant-loop-rest l = record {
  joined : joined_lines (setup l.day) l.second l.persons l.rest l.lines ≡ joined_lines (setup l.day) l.second l.persons l.numbers l.initial.lines;
  can : CanAllJoin (setup l.day) l.second l.persons l.rest l.lines;
}

abbrev pub decreases-loop-rest : goal.decreases-loop-rest
decreases-loop-rest l = length l.rest
