-- A wheel before the first second of a run.
use Rattle.std.specs.Prelude.{◌≡◌, ℕ, ◌<◌, List, [], length, get_or}
use Rattle.step_core.specs.Exchanges.{neighbour_at, lag_at}
use Rattle.step_core.specs.{Wheels.IsNoted, Wheels.lag_in, Wheels.lies, declared.part.Border.Border, declared.wheel.Wheel.Wheel}

-- the wheel of a partition with these neighbours, in which nothing lies
pub record IsEmptyWheel {P : Type 0} (nothing : P) (rows : List Border) (w : Wheel P) : Type 0 where
  pub noted : IsNoted nothing w
  pub lags : (k : ℕ) → k < length rows → lag_in w (neighbour_at rows k) ≡ lag_at rows k
  pub none : (u a : ℕ) → lies nothing w u a ≡ nothing

-- the wheels of the first n partitions, which have these neighbours
abbrev pub AreEmptyWheels : {P : Type 0} → P → List (List Border) → ℕ → List (Wheel P) → Type 0
AreEmptyWheels {P} nothing tables n wheels = (p : ℕ) (d : Wheel P) → p < n → IsEmptyWheel nothing (get_or tables p []) (get_or wheels p d)
