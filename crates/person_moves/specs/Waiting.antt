-- Who waits at a stop.
use Rattle.std.specs.Prelude.{ℕ, Option, None, Some}
use Rattle.rows.specs.declared.plan.Leg.{Leg}
use Rattle.rows.specs.declared.plan.Leg.TheVariants as leg
use Rattle.traffic.specs.declared.world.Waiter.{Waiter}

-- a person on this leg, with an activity of this kind after it, who waits at a stop
abbrev pub waiter_on : ℕ → Leg → ℕ → ℕ → ℕ → Option Waiter
waiter_on i (leg.Car route) kind stop since = None
waiter_on i (leg.Teleport mode seconds) kind stop since = None
waiter_on i (leg.Transit line access egress) kind stop since =
    Some (record { person = i; stop = stop; line = line; egress = egress; kind = kind; since = since })
