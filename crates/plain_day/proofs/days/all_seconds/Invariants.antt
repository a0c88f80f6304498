use Rattle.traffic.proofs.Common.{◌≡◌, world_from, events_from}
use Rattle.law_in_range.specs.{Rows.IsFitWorld, Setups.counts_in}
use Rattle.town.specs.Views.{setup}
use Rattle.plain_day.proofs.days.all_seconds.Given as goal

abbrev pub invariant-loop-t : goal.invariant-loop-t
invariant-loop-t l =
    let S = setup l.day in
    record {
      world : l.world ≡ world_from S l.initial.world l.t;
      events : l.events.items ≡ events_from S l.initial.world l.t;
      fit : IsFitWorld (counts_in l.day) l.world;
    }
