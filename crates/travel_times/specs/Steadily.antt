-- Links that take as long in every bin.
use Rattle.std.specs.Prelude.{ℕ, List, [], ◌∷◌}
use Rattle.travel_times.specs.Times.{LinkProfile}

-- the seconds where no bin is known, or else 0
abbrev pub seconds_of : ℕ → List ℕ → ℕ
seconds_of free [] = free
seconds_of free (time ∷ times) = 0

-- the seconds that a link takes in every bin, or 0 where it has bins
abbrev pub steady_of : LinkProfile → ℕ
steady_of profile = seconds_of profile.free profile.times
