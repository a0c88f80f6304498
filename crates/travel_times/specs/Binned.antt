-- The bins of a link by the tallies of it.
use Rattle.std.specs.Prelude.{ℕ, ◌-◌, max, List, [], ◌∷◌, map, slice_index_or}
use Rattle.travel_times.specs.{Observed.average_or, Tallies.no_tally}
use Rattle.travel_times.specs.declared.{TheConstants.BIN_SECONDS, profiles.Bin.Bin, tallies.Tally.Tally}

-- the tallies of a link, bin by bin
abbrev pub tallies_of : ℕ → List (List Tally) → List Tally
tallies_of link rows = map (λ row. slice_index_or row link no_tally) rows

-- the time of a bin
abbrev pub time_of : ℕ → Tally → ℕ
time_of free tally = average_or free tally.cars tally.seconds

-- the bins from one on in which nobody leaves before so many seconds of it, and the free one behind them
unfoldable pub bins_from : ℕ → ℕ → List Tally → List Bin
bins_from free hold [] = (record { time = free; hold = hold }) ∷ []
bins_from free hold (tally ∷ tallies) =
    (record { time = time_of free tally; hold = hold }) ∷ bins_from free (max (hold - BIN_SECONDS) (time_of free tally - 1)) tallies
