-- That whoever alights has his next activity there.
use Rattle.std.specs.Prelude.{◌≡◌, ℕ, ◌+◌, ◌≤◌, true, false, List, count_by, ◌==◌}
use Rattle.std.specs.List.{AllByRecursion as Each}
use Rattle.traffic.specs.{Links.is_last, Setup.Setup, Setup.act_at, Stops.next_call, Stops.alighting, Stops.calls_on, Vehicles.VehicleState}
use Rattle.traffic.specs.declared.{riders.Rider.Rider, world.Row.Row}

-- how often these riders are a person
abbrev pub times_in : ℕ → List Rider → ℕ
times_in i rs = count_by (λ (x : Rider). x.person == i) rs

-- Person i, whose leg is this element of his plan, alights from this vehicle on link l at his next activity alone: where it is served at a
-- stop there and he is one of those who alight, and where its route ends there and he rides.
abbrev pub Alights : Setup → ℕ → ℕ → ℕ → VehicleState → Type 0
Alights S l i element v =
    (calls_on l v ≡ true → 1 ≤ times_in i (alighting (next_call v).stop v.riders) → (act_at S i (element + 1)).link ≡ l)
    × (calls_on l v ≡ false → is_last v ≡ true → 1 ≤ times_in i v.riders → (act_at S i (element + 1)).link ≡ l)

-- the same of each of these rows
abbrev pub AlightAll : Setup → ℕ → ℕ → ℕ → List Row → Type 0
AlightAll S l i element rows = Each (λ (r : Row). Alights S l i element r.vehicle) rows
