use Rattle.std.proofs.Common.{◌≡◌, ℕ, length, drop}
use Rattle.law_in_range.specs.{Rows.IsFitWorld, Setups.counts_in}
use Rattle.town.specs.Views.{setup}
use Rattle.part_persons.{proofs.InOrder.Going, specs.Dues.AreFollowed, specs.Phases.phase_of}
use Rattle.part_persons.proofs.persons.Persons.do_turns.Given as goal

abbrev pub invariant-loop-number : goal.invariant-loop-number
invariant-loop-number l =
    let S = setup l.day in
    let end = l.day.town.now.settings.end_second in
    record {
      going : Going S l.second (phase_of l.early) l.numbers (drop l.number-index l.numbers) l.initial.self.world l.self.world
          l.initial.events.items l.events.items;
      fit : IsFitWorld (counts_in l.day) l.self.world;
      wakes : length l.self.wakes ≡ length l.self.world.persons;
      followed : (t : ℕ) → AreFollowed S end t l.initial.self.world.persons l.initial.self.wakes
          → AreFollowed S end t l.self.world.persons l.self.wakes;
    }
