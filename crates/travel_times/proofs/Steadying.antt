-- A link that takes as long in every bin: the arrival is the entry and its seconds.
use Rattle.std.proofs.Common.{◌≡◌, ℕ, zero, suc, ◌+◌, ◌<◌, ◌≤◌, max, List, [], ◌∷◌, length, map, refl, sym, ◌∙◌, ap, subst, arith}
use Rattle.std.{proofs.lemmas.List.get_or-map, specs.Prelude.slice_index}
use Rattle.travel_times.proofs.{Arriving.arrival_in_order, Arriving.held_none, Held.arrival_free}
use Rattle.travel_times.specs.{Steadily.seconds_of, Steadily.steady_of, Times.LinkProfile, Times.time_in, Times.arrival_by, Times.profile_at, Times.arrivals}

-- a link of which no bin is known, and that takes a second at least
no_bins : (free : ℕ) (bins : List ℕ) (second seconds : ℕ) → seconds ≡ seconds_of free bins → 0 < seconds
    → second + seconds ≡ arrival_by (time_in (record { free = free; times = bins })) second
no_bins free [] second seconds is some =
    let at = arrival_free (time_in (record { free = free; times = [] })) free 0 second (omega arith) (λ bin past. least free (omega arith))
    (omega arith) in
    let nobody = held_none (time_in (record { free = free; times = [] })) in
    omega arith
  where
    least : (n : ℕ) → 1 ≤ n → max 1 n ≡ n
    least n h = grind arith
no_bins free (bin ∷ bins) second seconds is some = absurd (omega arith)

-- what stands in the table is what the profile says
pub steady_arrival : (times : List LinkProfile) (link second seconds : ℕ) → link < length times
    → seconds ≡ slice_index (map steady_of times) link → 0 < seconds → second + seconds ≡ arrivals times link second
steady_arrival times link second seconds within is some =
    let profile : LinkProfile = profile_at times link in
    no_bins profile.free profile.times second seconds
    (is ∙ get_or-map steady_of times link (record { free = 1; times = [] }) 0 within) some
