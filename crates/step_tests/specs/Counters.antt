-- The stand-in for a partition.
use Rattle.std.specs.Prelude.{◌≡◌, ℕ, ◌<◌, Bool, true, List, length}
use Rattle.step_core.specs.{Cores.IsCore, Views.PartView, declared.part.Border.Border, declared.wheel.Wheel.Wheel}
use Rattle.step_tests.specs.{Rows.net_of, Rows.neighbours, Rows.number_of, declared.counters.Counter.Counter, declared.rows.Row.Row}

abbrev pub view_of : Counter → PartView ℕ
view_of x = record { number = x.number; seconds = x.seconds; inbox = x.inbox.items; outbox = x.outbox.items }

abbrev pub is_number : ℕ → ℕ → ℕ → ℕ → Type 0
is_number q p t x = x ≡ number_of q p t

abbrev pub IsSpent : Counter → Type 0
IsSpent x = x.spent ≡ true

-- it is one of the partitions of a row, knows its neighbours, and has a place for what goes to each
pub record Counts (r : Row) (x : Counter) : Type 0 where
  pub there : x.number < r.count
  pub neighbours : x.neighbours ≡ neighbours r.count r.longest x.number
  pub places : length x.outbox.items ≡ length x.neighbours

-- nothing but what was counted, and what lies in its places, differs
pub record IsAsBefore (old new : Counter) : Type 0 where
  pub number : new.number ≡ old.number
  pub seconds : new.seconds ≡ old.seconds
  pub neighbours : new.neighbours ≡ old.neighbours

-- the parts of a core whose partitions are those of the row
abbrev pub IsCoreOfRow : Row → List ℕ → List Bool → List (List Border) → List Counter → List (Wheel ℕ) → Type 0
IsCoreOfRow r = IsCore 0 (net_of r.count r.longest r.end) (neighbours r.count r.longest) view_of (Counts r) IsSpent is_number
