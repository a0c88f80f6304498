-- The orders in which the partitions of a day may step, and the states that they reach.
use Rattle.std.specs.Prelude.{◌≡◌, ℕ, List}
use Rattle.events.specs.declared.event.Event.{Event}
use Rattle.traffic.specs.Setup.{Setup}
use Rattle.parts.specs.{Core.Core, Core.Reaches, Owners.Owner, Owners.near, Owners.lag, Parts.Held, Parts.Parcel, Parts.held, Parts.out, Parts.own_events}
use Rattle.law_partitions.specs.{Kept.Kept, Whole.rule, Whole.start_of}
use Rattle.step_core.specs.Nets.{Net}

-- the partitions of a day, of which each has so many seconds to do
abbrev pub net_of : Setup → Owner → ℕ → ℕ → Net
net_of S own parts end = record { parts = parts; near = near S own; lag = lag S own; end = end }

-- these events lead from the start to a state in which partitions have done so many seconds
pub record IsReached (S : Setup) (own : Owner) (parts end : ℕ) (ps : List ℕ) (d : ℕ → ℕ) : Type 0 where
  pub state : Core Held Parcel Event
  pub reaches : Reaches (rule S own parts) end ps (start_of S own) state
  pub done : (p : ℕ) → state.done p ≡ d p

-- and that state has what the day says
pub record IsKept (S : Setup) (own : Owner) (parts end : ℕ) (ps : List ℕ) (d : ℕ → ℕ) : Type 0 where
  pub state : Core Held Parcel Event
  pub reaches : Reaches (rule S own parts) end ps (start_of S own) state
  pub done : (p : ℕ) → state.done p ≡ d p
  pub kept : Kept (rule S own parts) (held S own) (out S own) (own_events S own) state
