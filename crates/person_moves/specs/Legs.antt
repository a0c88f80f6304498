-- The legs of persons.
use Rattle.std.specs.Prelude.{◌≡◌, ℕ, ◌/◌, ◌<◌, Bool, false, List, [], length, get_or, ◌==◌, None, Some}
use Rattle.events.specs.declared.event.Mode.{Mode}
use Rattle.events.specs.declared.event.Mode.TheVariants as mode
use Rattle.rows.specs.{PlanRows.PlanRows, declared.plan.Leg.Leg}
use Rattle.traffic.specs.declared.world.{Person.Person, Place.Place}
use Rattle.traffic.specs.declared.world.Place.TheVariants.{At, Teleporting, Waiting, Riding, Aborted}
use Rattle.rows.specs.declared.plan.Leg.TheVariants as leg
use Rattle.person_moves.specs.declared.legs.LegKind.{LegKind}
use Rattle.person_moves.specs.declared.legs.LegKind.TheVariants as kind

-- a leg without its route
abbrev pub kind_of : Leg → LegKind
kind_of (leg.Car route) = kind.Car
kind_of (leg.Teleport mode seconds) = kind.Teleport mode seconds
kind_of (leg.Transit line access egress) = kind.Transit line access egress

-- the mode of a leg
abbrev pub mode_of_kind : LegKind → Mode
mode_of_kind kind.Car = mode.Car
mode_of_kind (kind.Teleport mode seconds) = mode
mode_of_kind (kind.Transit line access egress) = mode.Pt

-- an activity at this place ends in second t
abbrev pub ends_in : ℕ → Place → Bool
ends_in t (At None) = false
ends_in t (At (Some end)) = end == t
ends_in t (Teleporting start) = false
ends_in t (Waiting stop since) = false
ends_in t (Riding vehicle) = false
ends_in t (Aborted link) = false

-- who is at an activity that ends has a leg after it
abbrev pub CanLeave : PlanRows → Person → Type 0
CanLeave plan P = (end : ℕ) → P.place ≡ At (Some end) → P.element / 2 < length plan.legs

-- the leg at a place
abbrev pub nth_leg : List Leg → ℕ → Leg
nth_leg legs place = get_or legs place (leg.Car [])
