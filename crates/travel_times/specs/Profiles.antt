-- What a profile keeps, and what contracts see of it.
use Rattle.std.specs.Prelude.{◌≡◌, ℕ, suc, ◌-◌, ◌^◌, ◌<◌, ◌≤◌, max, length, map, slice_index_or}
use Rattle.travel_times.specs.{Times.LinkProfile, declared.TheConstants.BIN_SECONDS, declared.profiles.Bin.Bin, declared.profiles.Profile.TheInside.Inside}

-- the bin of this number
abbrev pub bin_at : Inside → ℕ → Bin
bin_at p k = slice_index_or p.bins.items k (record { time = 1; hold = 0 })

-- the free seconds, and those of each bin
abbrev pub profile_of : Inside → LinkProfile
profile_of p = record { free = p.free; times = map (λ b. b.time) p.bins.items }

-- every time is a second at least; who enters in a later bin is held by those of the bin before it, which enter in its last second at
-- the latest, and by those who held them; the last bin is free
pub record IsProfile (p : Inside) : Type 0 where
  pub least : 1 ≤ p.free
  pub each : (k : ℕ) → 1 ≤ (bin_at p k).time
  pub first : 0 < length p.bins.items → (bin_at p 0).hold ≡ 0
  pub next : (k : ℕ) → suc k < length p.bins.items → (bin_at p (suc k)).hold ≡ max ((bin_at p k).hold - BIN_SECONDS) ((bin_at p k).time - 1)
  pub last : (k : ℕ) → suc k ≡ length p.bins.items → (bin_at p k).time ≡ p.free
  pub few : length p.bins.items ≤ 2 ^ 23
