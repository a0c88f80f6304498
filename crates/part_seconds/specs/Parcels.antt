-- What is in a parcel.
use Rattle.std.specs.Prelude.{◌≡◌, ℕ, ◌<◌, ◌≤◌, true, false, List, [], length, get_or, Option, None, Some}
use Rattle.std.specs.Global.{Box}
use Rattle.limits.specs.declared.TheConstants.{MAX_PARTITIONS}
use Rattle.number_sets.specs.Sets.{has}
use Rattle.part_seconds.specs.declared.contents.Contents.{Contents}

-- where nothing goes
abbrev pub nothing : Contents
nothing = record { vehicles = []; teleported = []; freed = [] }

-- what goes with a parcel that has this box: nothing, where it has none
abbrev pub contents_in : Option (Box Contents) → Contents
contents_in None = nothing
contents_in (Some box) = box.value

-- MAILBOXES
-- nothing is in any of these parcels
abbrev pub HasNothing : List Contents → Type 0
HasNothing parcels = (k : ℕ) → get_or parcels k nothing ≡ nothing

-- Of each place of so many parcels it is noted whether something may be in its parcel, and where not, nothing is.
pub record IsNoted (noted : ℕ) (parcels : List Contents) : Type 0 where
  pub few : length parcels ≤ MAX_PARTITIONS
  pub there : (k : ℕ) → has noted k ≡ true → k < length parcels
  pub each : (k : ℕ) → has noted k ≡ false → get_or parcels k nothing ≡ nothing
