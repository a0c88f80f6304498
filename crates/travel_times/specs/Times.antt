-- The travel times of links, by the quarter of an hour in which a link is entered, and when its end is reached.
use Rattle.std.specs.Prelude.{ℕ, ◌+◌, ◌-◌, ◌*◌, ◌/◌, max, List, [], map, fold, slice_index_or}
use Rattle.std.specs.List.{range_with_len}
use Rattle.fixed_flow.specs.Link.{free_seconds}
use Rattle.rows.specs.declared.network.LinkRow.{LinkRow}
use Rattle.walks.specs.Arrivals.{Arrivals}
use Rattle.travel_times.specs.declared.TheConstants.{BIN_SECONDS}

-- what is known of a link: the seconds that it takes at its free speed, and those of each bin, from bin 0 on
pub record LinkProfile : Type 0 where
  pub free : ℕ
  pub times : List ℕ

-- the seconds of a link that is entered in this bin, one at least; behind the bins that are known it is free
abbrev pub time_in : LinkProfile → ℕ → ℕ
time_in profile bin = max 1 (slice_index_or profile.times bin profile.free)

-- the last second of a bin
abbrev pub last_second : ℕ → ℕ
last_second bin = BIN_SECONDS * (bin + 1) - 1

-- the second of arrival at the end of a link that takes so many seconds in each bin: the latest of that of its own bin, and of
-- those of who enters in the last second of an earlier bin, since nobody is overtaken
unfoldable pub arrival_by : (ℕ → ℕ) → ℕ → ℕ
arrival_by time second =
    fold max (second + time (second / BIN_SECONDS)) (map (λ bin. last_second bin + time bin) (range_with_len 0 (second / BIN_SECONDS)))

-- the profile of a link; a link that is not there takes a second
abbrev pub profile_at : List LinkProfile → ℕ → LinkProfile
profile_at times link = slice_index_or times link (record { free = 1; times = [] })

-- the second of arrival at the end of each link, by the second of entry
abbrev pub arrivals : List LinkProfile → Arrivals
arrivals times link second = arrival_by (time_in (profile_at times link)) second

-- the seconds of a link at its free speed
abbrev pub free_of : LinkRow → ℕ
free_of link = free_seconds link.length link.speed

-- the times of links at their free speed
abbrev pub free_times : List LinkRow → List LinkProfile
free_times links = map (λ link. record { free = free_of link; times = [] }) links
