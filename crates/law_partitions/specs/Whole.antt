-- The day in parts: what each partition does, as the rule of the core.
use Rattle.std.specs.Prelude.{ℕ, List, ◌++◌}
use Rattle.events.specs.declared.event.Event.{Event}
use Rattle.traffic.specs.Setup.{Setup}
use Rattle.parts.specs.{Core.Core, Core.Rule, Core.start, Owners.Owner, Owners.near, Owners.lag}
use Rattle.parts.specs.Parts.{Held, Parcel, held, own_events, own_end_events}
use Rattle.law_partitions.specs.Alone.{absorb, alone, parcel_to, tells_alone}

-- in its second a partition absorbs, does the second alone, sends, and tells
abbrev pub rule : Setup → Owner → ℕ → Rule Held Parcel Event
rule S own parts =
    record {
      parts = parts;
      near = near S own;
      lag = lag S own;
      step = λ p t H got. alone S own p t (absorb S own parts p t got H);
      send = λ p t H got. parcel_to S own p t (absorb S own parts p t got H);
      tell = λ p t H got. tells_alone S own p t (absorb S own parts p t got H);
    }

-- the state in which the day begins
abbrev pub start_of : Setup → Owner → Core Held Parcel Event
start_of S own = start {H = Held} {P = Parcel} {E = Event} (λ p. held S own p 0)

-- what a partition tells in all
abbrev pub all_told : Setup → Owner → ℕ → ℕ → List Event
all_told S own parts p = own_events S own p S.settings.end_second ++ own_end_events S own parts p
