-- What travel times keep: of each link the seconds that it takes in every bin beside its profile.
use Rattle.std.specs.Prelude.{◌≡◌, map}
use Rattle.travel_times.specs.{Steadily.steady_of, declared.link_times.LinkTimes.TheInside.Inside}

abbrev pub AreSteady : Inside → Type 0
AreSteady times = times.steady.items ≡ map steady_of times.links.items
