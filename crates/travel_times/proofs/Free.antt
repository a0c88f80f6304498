-- Links at their free speed take as long whenever they are entered.
use Rattle.std.proofs.Common.{◌≡◌, ℕ, zero, suc, ◌+◌, max, List, [], ◌∷◌, refl, ap, arith}
use Rattle.rows.specs.declared.network.LinkRow.{LinkRow}
use Rattle.walks.specs.Alike.{TakesAlike}
use Rattle.travel_times.proofs.{Arriving.held_none, Held.arrival_free}
use Rattle.travel_times.specs.Times.{LinkProfile, time_in, profile_at, arrivals, free_times}

no_bins : (links : List LinkRow) (link : ℕ) → (profile_at (free_times links) link).times ≡ []
no_bins [] link = refl
no_bins (l ∷ links) zero = refl
no_bins (l ∷ links) (suc link) = no_bins links link

same_time : (profile : LinkProfile) (bin : ℕ) → profile.times ≡ [] → time_in profile bin ≡ max 1 profile.free
same_time profile bin none = ap (λ (times : List ℕ). time_in (record { free = profile.free; times = times }) bin) none

-- the arrival is the entry and the free seconds
pub free_arrival : (links : List LinkRow) (link second : ℕ) → arrivals (free_times links) link second
    ≡ second + max 1 (profile_at (free_times links) link).free
free_arrival links link second =
    let profile : LinkProfile = profile_at (free_times links) link in
    let is = arrival_free (time_in (profile_at (free_times links) link)) (max 1 (profile_at (free_times links) link).free) 0 second
    (omega arith)
    (λ bin past. same_time (profile_at (free_times links) link) bin (no_bins links link)) (omega arith) in
    let nobody = held_none (time_in (profile_at (free_times links) link)) in
    omega arith

pub free_alike : (links : List LinkRow) → TakesAlike (arrivals (free_times links))
free_alike links link second later =
    let at = free_arrival links link second in
    let after = free_arrival links link (later + second) in
    omega arith
