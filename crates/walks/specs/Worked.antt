-- A worked network: four nodes and two ways from the first to the last, along the links 0 and 2 or 1 and 3.
use Rattle.std.specs.Prelude.{zero, suc, ◌+◌, ◌*◌, ◌/◌, [], ◌∷◌}
use Rattle.walks.specs.{Arrivals.Arrivals, Walks.Ends}

abbrev pub two_ways : Ends
two_ways = (0, 1) ∷ (0, 2) ∷ (1, 3) ∷ (2, 3) ∷ []

-- each link takes ten seconds
abbrev pub ten_seconds : Arrivals
ten_seconds link second = second + 10

-- link 1 is left at full minutes alone, the others take ten seconds
abbrev pub full_minutes : Arrivals
full_minutes zero second = second + 10
full_minutes (suc zero) second = 60 * (second / 60 + 1)
full_minutes (suc (suc link)) second = second + 10
