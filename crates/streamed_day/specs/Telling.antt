-- Partitions that have all done as many seconds, and what they tell.
use Rattle.std.specs.Prelude.{ℕ, ◌-◌, ◌<◌, ◌≤◌, Bool, List, length, get_or}
use Rattle.events.specs.declared.event.Event.{Event}
use Rattle.partition.specs.declared.owner.Owner.{Owner}
use Rattle.step_core.specs.{Cores.IsCore, Cores.AllAt, Nets.Net, Views.PartView, Views.HasDone, Views.IsAt}
use Rattle.step_core.specs.declared.{part.Border.Border, wheel.Wheel.Wheel}
use Rattle.town.specs.declared.day_input.DayInput.{DayInput}
use Rattle.divided_day.specs.Days.{told_at, end_told_in}

-- what a partition tells of the second that it did last, and what it tells of the end of the day
abbrev pub told_last : {P : Type 0} → DayInput → Owner → PartView P → List Event
told_last day owner v = told_at day owner v.number (v.seconds - 1)

abbrev pub told_at_end : {P : Type 0} → DayInput → Owner → PartView P → List Event
told_at_end day owner v = end_told_in day owner v.number

-- a partition of a run has done a second, of which it can tell
pub record CanTell {T P : Type 0} (nothing : P) (N : Net) (borders : ℕ → List Border) (see : T → PartView P) (stands : T → Type 0)
    (x : T) : Type 0 where
  pub there : (see x).number < N.parts
  pub some : 0 < (see x).seconds
  pub at : HasDone nothing see stands (see x).number (see x).seconds (length (borders (see x).number)) x

abbrev pub AllCanTell : {T P : Type 0} → P → Net → (ℕ → List Border) → (T → PartView P) → (T → Type 0) → List T → Type 0
AllCanTell {T} nothing N borders see stands parts = (k : ℕ) (d : T) → k < length parts
    → CanTell nothing N borders see stands (get_or parts k d)

-- it has done all its seconds
pub record IsAtEnd {T P : Type 0} (nothing : P) (N : Net) (borders : ℕ → List Border) (see : T → PartView P) (stands : T → Type 0)
    (x : T) : Type 0 where
  pub there : (see x).number < N.parts
  pub at : IsAt nothing see stands (see x).number N.end (length (borders (see x).number)) x

abbrev pub AllAreAtEnd : {T P : Type 0} → P → Net → (ℕ → List Border) → (T → PartView P) → (T → Type 0) → List T → Type 0
AllAreAtEnd {T} nothing N borders see stands parts = (k : ℕ) (d : T) → k < length parts
    → IsAtEnd nothing N borders see stands (get_or parts k d)

-- a core whose partitions have all done so many of their seconds
pub record IsCoreAt {T P : Type 0} (nothing : P) (N : Net) (borders : ℕ → List Border) (see : T → PartView P) (stands spent : T → Type 0)
    (right : ℕ → ℕ → ℕ → P → Type 0) (t : ℕ) (done : List ℕ) (stopped : List Bool) (tables : List (List Border)) (parts : List T)
    (wheels : List (Wheel P)) : Type 0 where
  pub core : IsCore nothing N borders see stands spent right done stopped tables parts wheels
  pub all : AllAt N.parts t done stopped
  pub within : t ≤ N.end
