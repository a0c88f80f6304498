use Rattle.std.proofs.Common.{◌≡◌, length}
use Rattle.town.specs.Views.{setup}
use Rattle.part_persons.proofs.Told.{AreFollowedBelow}
use Rattle.part_persons.proofs.hearing.follow_residents.Given as goal

abbrev pub invariant-loop-person : goal.invariant-loop-person
invariant-loop-person l = record {
  before : AreFollowedBelow (setup l.day) l.day.town.now.settings.end_second l.person l.persons l.wakes;
  count : length l.wakes ≡ length l.initial.wakes;
}
