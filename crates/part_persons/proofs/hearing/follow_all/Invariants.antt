use Rattle.std.proofs.Common.{◌≡◌, length}
use Rattle.town.specs.Views.{setup}
use Rattle.part_persons.specs.Dues.{followed_all}
use Rattle.part_persons.proofs.hearing.follow_all.Given as goal

abbrev pub invariant-loop-rest : goal.invariant-loop-rest
invariant-loop-rest l = record {
  told : followed_all (setup l.day) l.day.town.now.settings.end_second l.persons l.rest l.wakes
      ≡ followed_all (setup l.day) l.day.town.now.settings.end_second l.persons l.said l.initial.wakes;
  count : length l.wakes ≡ length l.persons;
}

abbrev pub decreases-loop-rest : goal.decreases-loop-rest
decreases-loop-rest l = length l.rest
