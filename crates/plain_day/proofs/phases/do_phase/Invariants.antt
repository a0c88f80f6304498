use Rattle.law_in_range.{proofs.Phasing.Going, specs.Rows.IsFitWorld, specs.Setups.counts_in}
use Rattle.town.specs.Views.{setup}
use Rattle.traffic.specs.Day.{count_of}
use Rattle.plain_day.proofs.phases.do_phase.Given as goal

abbrev pub invariant-loop-number : goal.invariant-loop-number
invariant-loop-number l =
    let S = setup l.day in
    record {
      going : Going S l.second l.phase (count_of S l.phase) l.number l.initial.world l.world l.initial.out.items l.out.items;
      fit : IsFitWorld (counts_in l.day) l.world;
    }
